-- The word for each form of a message.
use Rattle.std.specs.Prelude.{ℕ, List, codes}
use Rattle.message.specs.declared.said.Message.{Message}
use Rattle.message.specs.declared.said.Message.TheVariants.{Write1, Read, Write2, Resolve, Round, ShowGrant, ShowCert}

abbrev pub form_word : Message → List ℕ
form_word (Write1 request) = codes "WRITE-1"
form_word (Read question) = codes "READ"
form_word (Write2 certificate) = codes "WRITE-2"
form_word (Resolve grants request) = codes "RESOLVE"
form_word (Round starts grants requests) = codes "ROUND"
form_word (ShowGrant shown) = codes "SHOW-GRANT"
form_word ShowCert = codes "SHOW-CERT"
