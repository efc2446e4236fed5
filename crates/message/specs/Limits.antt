-- The limits of messages and of the buffers of a call, each in one place.
use Rattle.std.specs.Prelude.{ℕ}

-- The most faulty sites that a pool stands: sixteen board bytes count the signers of at most sixteen sites.
abbrev pub highest_faulty : ℕ
highest_faulty = 5

-- The most records of a message: 11 STARTs, 11 GRANTs and 16 REQUESTs.
abbrev pub most_records : ℕ
most_records = 38

-- The most REQUESTs of a ROUND, one for each client.
abbrev pub most_requests : ℕ
most_requests = 16

-- The least room for a reply: a certificate of eleven records.
abbrev pub least_room : ℕ
least_room = 880

-- The bytes of a board.
abbrev pub board_size : ℕ
board_size = 16
