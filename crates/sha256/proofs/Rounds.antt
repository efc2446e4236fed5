-- The start, the step and the end of the loop over the 64 rounds.
use Rattle.std.proofs.Common.{◌≡◌, ℕ, ◌+◌, List, get_or, refl, ap, ◌∙◌, add-one}
use Rattle.sha256.specs.declared.compression.Working.{Working}
use Rattle.sha256.specs.Compression.{added, after_round, compressed, rounds, schedule, start}

pub rounds_none : (ws : List ℕ) (v : Working) → v ≡ rounds 0 ws v
unfolding rounds
rounds_none ws v = refl

pub rounds_more
    : (ws : List ℕ) (from v v' : Working) (t u : ℕ)
    → u ≡ t + 1
    → v ≡ rounds t ws from
    → v' ≡ after_round v t (get_or ws t 0)
    → v' ≡ rounds u ws from
unfolding rounds
rounds_more ws from v v' t u next so_far step =
    rw (next, add-one) (step ∙ ap (λ x. after_round x t (get_or ws t 0)) so_far)

pub rounds_all
    : (hs block ws : List ℕ) (from v : Working) (t : ℕ)
    → t ≡ 64
    → ws ≡ schedule block
    → from ≡ start hs
    → v ≡ rounds t ws from
    → added hs v ≡ compressed hs block
unfolding compressed
rounds_all hs block ws from v t end is-schedule is-start all =
    ap (added hs) (rw (end, is-schedule, is-start) at all)
