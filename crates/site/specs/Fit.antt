-- Which figures fit.
use Rattle.std.specs.Prelude.{ℕ, ◌*◌, Bool, cond, ◌&&◌, nat_le}

-- f lies from 1 to 5, and a site's number from 0 to 3f.
abbrev pub fit_figures : ℕ → ℕ → Bool
fit_figures f number = nat_le 1 f && nat_le f 5 && nat_le number (3 * f)

-- Figures that do not fit make number 0 of f = 1.
abbrev pub fitted_f : ℕ → ℕ → ℕ
fitted_f f number = cond (fit_figures f number) f 1

abbrev pub fitted_number : ℕ → ℕ → ℕ
fitted_number f number = cond (fit_figures f number) number 0
