-- Filing, and the search for the latest reply.
use Rattle.std.proofs.Common.{◌≡◌, ℕ, suc, ◌+◌, ◌-◌, ◌<◌, ◌≤◌, Bool, true, false, cond, List, sym, ap, ◌∙◌, arith}
use Rattle.office.specs.Slots.{later_slot, slot_at, latest_from}
use Rattle.office.specs.declared.slots.Slot.{Slot}

-- One site more is looked at: it is later than the best so far, or it is not.
pub looked_on
    : (slots : List Slot) (best i n : ℕ) {l : ℕ}
    → i < n
    → later_slot (slot_at slots i) (slot_at slots best) ≡ true
    → latest_from slots best i (n - i) ≡ l
    → latest_from slots i (i + 1) (n - (i + 1)) ≡ l
unfolding latest_from
looked_on slots best i n less e so =
    let one : n - i ≡ suc (n - (i + 1)) = omega arith in
    ap (λ (t : Bool). latest_from slots (cond t i best) (i + 1) (n - (i + 1))) (sym e) ∙ (rw one at so)

pub passed_on
    : (slots : List Slot) (best i n : ℕ) {l : ℕ}
    → i < n
    → later_slot (slot_at slots i) (slot_at slots best) ≡ false
    → latest_from slots best i (n - i) ≡ l
    → latest_from slots best (i + 1) (n - (i + 1)) ≡ l
unfolding latest_from
passed_on slots best i n less e so =
    let one : n - i ≡ suc (n - (i + 1)) = omega arith in
    ap (λ (t : Bool). latest_from slots (cond t i best) (i + 1) (n - (i + 1))) (sym e) ∙ (rw one at so)

pub all_looked_at : (slots : List Slot) (best i n : ℕ) {l : ℕ} → n ≤ i → latest_from slots best i (n - i) ≡ l → best ≡ l
unfolding latest_from
all_looked_at slots best i n more so =
    let e : n - i ≡ 0 = omega arith in rw e at so
