-- Which figures fit.
use Rattle.std.specs.Prelude.{ℕ, Bool, cond, ◌&&◌, nat_le}
use Rattle.record.specs.Limits.{highest_client}
use Rattle.message.specs.Limits.{highest_faulty}

-- f lies from 1 to 5, and a client's number from 0 to 15.
abbrev pub fit_figures : ℕ → ℕ → Bool
fit_figures f client = nat_le 1 f && nat_le f highest_faulty && nat_le client highest_client

-- Figures that do not fit make client 0 of f = 1.
abbrev pub fitted_f : ℕ → ℕ → ℕ
fitted_f f client = cond (fit_figures f client) f 1

abbrev pub fitted_client : ℕ → ℕ → ℕ
fitted_client f client = cond (fit_figures f client) client 0
