-- One site's call, as a step of the pool.
use Rattle.std.proofs.Common.{◌≡◌, ℕ, zero, suc, ◌+◌, ◌-◌, ◌<◌, ◌≤◌, min, Bool, cond, List, [], ◌∷◌, ◌++◌, map, length, get_or, take, set, is_ok, Some, Ok, Err, Result, refl, ap, ◌∙◌, subst, arith, OnErr}
use Rattle.std.specs.List.{slice_get}
use Rattle.std.specs.Option.{option_map}
use Rattle.std.proofs.lemmas.List.{length-take, map-set, map_push}
use Rattle.std.proofs.lemmas.Option.{slice_get_read}
use Rattle.object.specs.Rules.{Rules}
use Rattle.message.specs.declared.refusal.Refusal.{Refusal}
use Rattle.site.specs.Call.{Called, Leaves, call}
use Rattle.site.specs.Ledgers.{Kept}
use Rattle.site.specs.Life.{put}
use Rattle.site.specs.declared.site.Site.{Site}
use Rattle.pool.specs.Delivering.{called_by, stepped, noted, Moment, after_call, CalledAt}
use Rattle.pool.specs.Views.{Heard, heard, View, view, views}
use Rattle.pool.specs.declared.entry.Entry.{Entry}
use Rattle.pool.proofs.Nths.{nth-map}

take_within : (n : ℕ) (l : List ℕ) → take (min n (length l)) l ≡ take n l
take_within zero l = ap (λ k. take k l) (let m : min zero (length l) ≡ 0 = omega arith in m)
take_within (suc n) [] = ap (λ k. take k []) (let m : min (suc n) 0 ≡ 0 = omega arith in m)
take_within (suc n) (x ∷ l) =
    let m : min (suc n) (suc (length l)) ≡ suc (min n (length l)) = omega arith in
    ap (λ k. take k (x ∷ l)) m ∙ ap (λ r. x ∷ r) (take_within n l)

-- A memory that has room for what is added takes it.
pub filled : {E : Type 0} (r : Result (Unit {0}) E) (n k : ℕ) (output before after : List ℕ) (cap len : ℕ) →
    before ≡ [] → len ≡ 0 → length output ≤ cap → k ≡ min n (length output) → after ≡ cond (is_ok r) (before ++ take (k - 0) output) before →
    OnErr r (cap < len + length (take (k - 0) output)) →
    after ≡ put (Ok n) output
filled (Ok _) n k output before after cap len none empty fits least is full =
    let whole : k - 0 ≡ min n (length output) = omega arith in
    is ∙ ap (λ (l : List ℕ). l ++ take (k - 0) output) none ∙ ap (λ j. take j output) whole ∙ take_within n output
filled (Err _) n k output before after cap len none empty fits least is full =
    absurd (omega (arith, length-take (k - 0) output))

pub same_heard : (a b : ℕ) (m n v w : List ℕ) (r : Result ℕ Refusal) → a ≡ b → m ≡ n → v ≡ w →
    ◌≡◌ {A = Heard} (record { site = a; message = m; result = r; written = v }) (record { site = b; message = n; result = r; written = w })
same_heard a b m n v w r e f g = cc

module _ (R : Rules) {N O : Type 0} (means : N → List ℕ → Bool) (holds : O → Kept R) (entered left : Site N O) where
  -- The site after its call.
  is_stepped : (c : Called R) (out cleared : List ℕ) (result : Result ℕ Refusal) → Leaves R c left.replica.state (holds left.replica.object) out cleared result →
      left.notary ≡ entered.notary → left.figures ≡ entered.figures → view R means holds left ≡ stepped (view R means holds entered) c
  is_stepped c out cleared result leaves notary figures =
      let s = leaves.state in
      let k = leaves.kept in
      cc

  is_noted : (c : Called R) (out cleared : List ℕ) (result : Result ℕ Refusal) (new : Entry) (i : ℕ) (message : List ℕ) → Leaves R c left.replica.state (holds left.replica.object) out cleared result →
      heard new ≡ record { site = i; message = message; result = result; written = put result out } → heard new ≡ noted i message c
  is_noted c out cleared result new i message leaves is =
      let o = leaves.output in
      let r = leaves.result in
      cc

  same_moment : (a b : List (View R)) (s t : List Heard) (o p x y : List ℕ) → a ≡ b → s ≡ t → o ≡ p → x ≡ y →
      ◌≡◌ {A = Moment R} (record { sites = a; transcript = s; output = o; board = x }) (record { sites = b; transcript = t; output = p; board = y })
  same_moment a b s t o p x y e f g h = cc

  called : (all : List (Site N O)) (entries after : List Entry) (new : Entry) (i : ℕ) (message output board out cleared : List ℕ) (result : Result ℕ Refusal) (c : Called R) →
      c ≡ called_by (view R means holds entered) message output board →
      i < length all → entered ≡ get_or all i entered → Leaves R c left.replica.state (holds left.replica.object) out cleared result →
      left.notary ≡ entered.notary → left.figures ≡ entered.figures → after ≡ entries ++ new ∷ [] →
      heard new ≡ record { site = i; message = message; result = result; written = put result out } →
      CalledAt (record { sites = views R means holds all; transcript = map heard entries; output = output; board = board }) i message
      (record { sites = views R means holds (set all i left); transcript = map heard after; output = out; board = cleared }) result
  called all entries after new i message output board out cleared result c is below at leaves notary figures more told =
      let f = view R means holds in
      let stood : slice_get all i ≡ Some entered = slice_get_read all (length all) i entered refl below at in
      let sites : map f (set all i left) ≡ set (map f all) i (stepped (f entered) c) =
      map-set f all i left ∙ ap (set (map f all) i) (is_stepped c out cleared result leaves notary figures) in
      let telling : map heard after ≡ map heard entries ++ noted i message c ∷ [] =
      ap (map heard) more ∙ map_push heard entries new ∙ ap (λ (h : Heard). map heard entries ++ h ∷ []) (is_noted c out cleared result new i message leaves told) in
      record {
        at_site = f entered;
        there = nth-map f all i ∙ ap (option_map f) stood;
        left = same_moment (map f (set all i left)) (set (map f all) i (stepped (f entered) c)) (map heard after) (map heard entries ++ noted i message c ∷ []) out c.output cleared c.board sites telling leaves.output leaves.board
            ∙ ap (after_call (record { sites = views R means holds all; transcript = map heard entries; output = output; board = board }) i message (f entered)) is;
        returned = leaves.result ∙ ap (λ (x : Called R). x.result) is;
      }

  pub called_there : (all : List (Site N O)) (entries after : List Entry) (new : Entry) (i site : ℕ) (message output board out cleared : List ℕ) (result : Result ℕ Refusal) →
      i ≡ site → i < length all → entered ≡ get_or all i entered →
      Leaves R (call R entered.figures.f entered.figures.number (means entered.notary) entered.replica.state (holds entered.replica.object) message output board) left.replica.state (holds left.replica.object) out cleared result →
      left.notary ≡ entered.notary → left.figures ≡ entered.figures → after ≡ entries ++ new ∷ [] →
      heard new ≡ record { site = i; message = message; result = result; written = put result out } →
      CalledAt (record { sites = views R means holds all; transcript = map heard entries; output = output; board = board }) site message
      (record { sites = views R means holds (set all i left); transcript = map heard after; output = out; board = cleared }) result
  called_there all entries after new i site message output board out cleared result same below at leaves notary figures more told =
      subst (λ s. CalledAt (record { sites = views R means holds all; transcript = map heard entries; output = output; board = board }) s message
      (record { sites = views R means holds (set all i left); transcript = map heard after; output = out; board = cleared }) result) same
      (called all entries after new i message output board out cleared result (called_by (view R means holds entered) message output board) refl below at leaves notary figures more told)
