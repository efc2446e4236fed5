-- Records written end to end.
use Rattle.std.proofs.Common.{◌≡◌, ℕ, ◌+◌, ◌<◌, List, [], ◌∷◌, ◌++◌, length, get_or, take, drop, sym, refl, ap, ◌∙◌, append_assoc}
use Rattle.std.proofs.lemmas.List.{append-nil, take_more, take_at, drop_at, drop-drop}
use Rattle.office.specs.Judging.{records_of, bytes_in}
use Rattle.office.specs.Slots.{slot_at}
use Rattle.office.specs.declared.slots.Slot.{Slot}

-- The bytes of one more site's record.
abbrev bytes_of : List Slot → ℕ → List ℕ
bytes_of slots site = bytes_in (slot_at slots site).filed

pub records-append : (slots : List Slot) (a b : List ℕ) → records_of slots (a ++ b) ≡ records_of slots a ++ records_of slots b
unfolding records_of
records-append slots [] b = refl
records-append slots (i ∷ a) b =
    ap (λ (r : List ℕ). bytes_of slots i ++ r) (records-append slots a b) ∙ sym (append_assoc (bytes_of slots i) (records_of slots a) (records_of slots b))

records-one : (slots : List Slot) (site : ℕ) → records_of slots (site ∷ []) ≡ bytes_of slots site
unfolding records_of
records-one slots site = append-nil (bytes_of slots site)

-- Nobody's records are no bytes.
pub records-none : (slots : List Slot) → records_of slots [] ≡ []
unfolding records_of
records-none slots = refl

pub records-more
    : (slots : List Slot) (sites : List ℕ) (k : ℕ) → k < length sites → records_of slots (take (k + 1) sites) ≡ records_of slots (take k sites) ++ bytes_of slots (get_or sites k 0)
records-more slots sites k less =
    ap (records_of slots) (take_more sites k 0 less)
    ∙ records-append slots (take k sites) (get_or sites k 0 ∷ [])
    ∙ ap (λ (r : List ℕ). records_of slots (take k sites) ++ r) (records-one slots (get_or sites k 0))

-- One record more, behind those that are written.
pub one_more
    : (front bytes out before after : List ℕ) (n : ℕ)
    → length front ≡ n
    → out ≡ front ++ drop n before
    → after ≡ take n out ++ (bytes ++ drop (n + 80) out)
    → after ≡ (front ++ bytes) ++ drop (n + 80) before
one_more front bytes out before after n long eo ea =
    let t : take n out ≡ front = ap (take n) eo ∙ take_at front (drop n before) n long in
    let d : drop n out ≡ drop n before = ap (drop n) eo ∙ drop_at front (drop n before) n long in
    let e : drop (n + 80) out ≡ drop (n + 80) before = sym (drop-drop 80 n out) ∙ ap (drop 80) d ∙ drop-drop 80 n before in
    let s = append_assoc front bytes (drop (n + 80) before) in
    cc
