-- The judge's walk over a recipe, line by line. Assumes nothing.
use Rattle.std.proofs.Common.{◌≡◌, ℕ, zero, suc, ◌+◌, ◌-◌, ◌<◌, ◌≤◌, min, add-zero, zero-add, List, [], ◌∷◌, length, Some, None, Ok, Err, Option, Result, sym, refl, ap, ◌∙◌, arith}
use Rattle.std.proofs.lemmas.Bool.{le-leb, lt-leb, cond-true, cond-false}
use Rattle.refusal.specs.declared.Refusal.{Refusal}
use Rattle.refusal.specs.declared.Refusal.TheVariants.{BadLine, WrongPhase, OverTotal}
use Rattle.recipe.specs.declared.trough.Phase.{Phase}
use Rattle.recipe.specs.declared.trough.Phase.TheVariants.{Empty, Filled, Mixed}
use Rattle.recipe.specs.declared.verdict.Lawful.{Lawful}
use Rattle.recipe.specs.Lines.{Entry, dose, mix, empty, remark, grams_of, bytes_of, read_line}
use Rattle.recipe.specs.Trough.{step_of}
use Rattle.recipe.specs.Verdict.{Held, done, bad, next, held_in, held, entries, total, end_fault, fault, counted, walked, weighed, verdict}
use Rattle.recipe.specs.Placed.{placed}
use Rattle.std.proofs.lemmas.Option.{none-some}
use Rattle.recipe.proofs.Back.{ok_err, read_length}

pub some_bytes : (e : Entry) → 1 ≤ length (bytes_of e)
some_bytes (dose bin grams) = omega arith
some_bytes (mix seconds) = omega arith
some_bytes empty = omega arith
some_bytes (remark text) = omega arith

-- what is held after one reading
abbrev from : ℕ → Option (Entry × List ℕ) → Held
from steps r = elim r [ None ↦ bad | Some x ↦ next x.0 (held_in steps x.1) ]

from_same : (n m : ℕ) (bs : List ℕ) (r : Option (Entry × List ℕ)) → read_line bs ≡ r → length bs ≤ suc n → length bs ≤ suc m → ((cs : List ℕ) → length cs ≤ n → length cs ≤ m → held_in n cs ≡ held_in m cs) → from n r ≡ from m r
from_same n m bs None p h k ih = refl
from_same n m bs (Some x) p h k ih =
    let long = read_length bs x p in
    let some = some_bytes x.0 in
    ap (next x.0) (ih x.1 (omega arith) (omega arith))

-- more steps than bytes change nothing
enough : (n m : ℕ) (bs : List ℕ) → length bs ≤ n → length bs ≤ m → held_in n bs ≡ held_in m bs
enough n m [] h k = refl
enough zero m (b ∷ bs) h k = absurd (omega arith)
enough (suc n) zero (b ∷ bs) h k = absurd (omega arith)
enough (suc n) (suc m) (b ∷ bs) h k = from_same n m (b ∷ bs) (read_line (b ∷ bs)) refl h k (enough n m)

pub held_next : (bs : List ℕ) (x : Entry × List ℕ) → read_line bs ≡ Some x → held bs ≡ next x.0 (held x.1)
held_next [] x p = absurd (none-some x p)
held_next (b ∷ bs) x p =
    let long = read_length (b ∷ bs) x p in
    let some = some_bytes x.0 in
    ap (from (length bs)) p ∙ ap (next x.0) (enough (length bs) (length x.1) x.1 (omega arith) (omega arith))

pub held_bad : (bs : List ℕ) → 0 < length bs → read_line bs ≡ None → held bs ≡ bad
held_bad [] h p = absurd (omega arith)
held_bad (b ∷ bs) h p = ap (from (length bs)) p

-- the answer where a first fault is known, or that there is none
abbrev pub ruled : Option Refusal → Result Lawful Refusal → Result Lawful Refusal
ruled r granted = elim r [ None ↦ granted | Some f ↦ Err f ]

pub not_empty : (place : ℕ) (phase : Phase) → (phase ≡ Empty → ⊥) → end_fault place phase ≡ Some (WrongPhase place)
not_empty place Empty n = absurd (n refl)
not_empty place Filled n = refl
not_empty place Mixed n = refl

ok_same : (x y : Lawful) → ◌≡◌ {A = Result Lawful Refusal} (Ok x) (Ok y) → x ≡ y
ok_same x y p = cc

-- what a step leaves to the lines after it
abbrev pub stepped : ℕ → ℕ → Held → Option Phase → Option Refusal
stepped place size h r = elim r [ None ↦ Some (WrongPhase place) | Some after ↦ fault after (place + size) h ]

-- the first fault, from the items that a walk has left
abbrev pub first_fault : ℕ → Phase → List (Result (ℕ × Entry) Refusal) → Option Refusal
first_fault end phase [] = end_fault end phase
first_fault end phase (Err f ∷ items) = Some f
first_fault end phase (Ok x ∷ items) = elim (step_of phase x.1) [ None ↦ Some (WrongPhase x.0) | Some after ↦ first_fault end after items ]

abbrev pub lines_of : List (Result (ℕ × Entry) Refusal) → List Entry
lines_of [] = []
lines_of (Err f ∷ items) = lines_of items
lines_of (Ok x ∷ items) = x.1 ∷ lines_of items

lines_placed : (place : ℕ) (h : Held) → lines_of (placed place h) ≡ entries h
lines_placed place done = refl
lines_placed place bad = refl
lines_placed place (next e h) = ap (λ l. e ∷ l) (lines_placed (place + length (bytes_of e)) h)

stepped_same : (place size end : ℕ) (h : Held) → ((after : Phase) → fault after (place + size) h ≡ first_fault end after (placed (place + size) h)) → (r : Option Phase)
    → stepped place size h r ≡ elim r [ None ↦ Some (WrongPhase place) | Some after ↦ first_fault end after (placed (place + size) h) ]
stepped_same place size end h same None = refl
stepped_same place size end h same (Some after) = same after

-- the items have the fault that the bytes have, and each takes a byte at least
abbrev Agrees : ℕ → ℕ → ℕ → Held → Type 0
Agrees place end size h = ((phase : Phase) → fault phase place h ≡ first_fault end phase (placed place h)) × (length (placed place h) ≤ size)

agrees_from : (n place : ℕ) (bs : List ℕ) → 0 < length bs → ((cs : List ℕ) (k : ℕ) → length cs ≤ n → Agrees k (k + length cs) (length cs) (held_in n cs)) → length bs ≤ suc n
    → (r : Option (Entry × List ℕ)) → read_line bs ≡ r → Agrees place (place + length bs) (length bs) (from n r)
agrees_from n place bs some ih h None p = (λ phase. refl, omega arith)
agrees_from n place bs some ih h (Some x) p =
    let long = read_length bs x p in
    let some = some_bytes x.0 in
    let size = length (bytes_of x.0) in
    let on : place + size + length x.1 ≡ place + length bs = omega arith in
    let more = ih x.1 (place + size) (omega arith) in (
      λ phase. stepped_same place size (place + length bs) (held_in n x.1) (λ after. more.0 after ∙ ap (λ k. first_fault k after (placed (place + size) (held_in n x.1))) on) (step_of phase x.0),
      omega (arith, more.1),
    )

agrees : (n place : ℕ) (bs : List ℕ) → length bs ≤ n → Agrees place (place + length bs) (length bs) (held_in n bs)
agrees n place [] h = (λ phase. ap (λ k. end_fault k phase) (sym (add-zero place)), omega arith)
agrees zero place (b ∷ bs) h = absurd (omega arith)
agrees (suc n) place (b ∷ bs) h = agrees_from n place (b ∷ bs) (omega arith) (λ cs k. agrees n k cs) h (read_line (b ∷ bs)) refl

-- a line is read in front of the rest
pub placed_next : (recipe rest : List ℕ) (e : Entry) (after : List ℕ) → length rest ≤ length recipe → read_line rest ≡ Some (e, after)
    → placed (length recipe - length rest) (held rest) ≡ Ok (length recipe - length rest, e) ∷ placed (length recipe - length after) (held after)
placed_next recipe rest e after h p =
    let place = length recipe - length rest in
    let long = read_length rest (e, after) p in
    let on : place + length (bytes_of e) ≡ length recipe - length after = omega arith in
    ap (placed place) (held_next rest (e, after) p) ∙ ap (λ k. Ok (place, e) ∷ placed k (held after)) on

-- no line stands in front of the rest
pub placed_bad : (place : ℕ) (rest : List ℕ) → 0 < length rest → read_line rest ≡ None → (end : ℕ) (none : List ℕ) → none ≡ [] → placed place (held rest) ≡ Err (BadLine place) ∷ placed end (held none)
placed_bad place rest h p end none e = ap (placed place) (held_bad rest h p) ∙ ap (λ l. Err (BadLine place) ∷ placed end (held l)) (sym e)

-- the judge has items left: they decide the verdict
pub record Walked (recipe : List ℕ) (left : List (Result (ℕ × Entry) Refusal)) (phase : Phase) (lines grams : ℕ) : Type 0 where
  pub fits : lines + length left ≤ length recipe
  pub faults : fault Empty 0 (held recipe) ≡ first_fault (length recipe) phase left
  pub counts : length (entries (held recipe)) ≡ lines + length (lines_of left)
  pub bounded : grams ≤ 4_294_967_295
  pub weighs : min (total (entries (held recipe))) 4_294_967_295 ≡ min (grams + total (lines_of left)) 4_294_967_295

pub begun : (recipe : List ℕ) (left : List (Result (ℕ × Entry) Refusal)) (phase : Phase) → left ≡ placed 0 (held recipe) → phase ≡ Empty → Walked recipe left phase 0 0
begun recipe left phase p e =
    let same = agrees (length recipe) 0 recipe (omega arith) in
    let lines = ap lines_of p ∙ lines_placed 0 (held recipe) in
    let count = ap length lines in
    let weight = ap total lines in
    let items = ap length p in
    record {
      fits = omega (arith, same.1);
      faults = same.0 Empty ∙ (λ i. first_fault (zero-add (length recipe) i) (sym e i) (sym p i));
      counts = omega arith;
      bounded = omega arith;
      weighs = omega arith;
    }

module _ {recipe : List ℕ} {left : List (Result (ℕ × Entry) Refusal)} {phase : Phase} {lines grams : ℕ} (w : Walked recipe left phase lines grams) where
  module _ (place : ℕ) (e : Entry) (items : List (Result (ℕ × Entry) Refusal)) (p : left ≡ Ok (place, e) ∷ items) where
    taken : (r : Option Phase) → step_of phase e ≡ r → first_fault (length recipe) phase left ≡ elim r [ None ↦ Some (WrongPhase place) | Some after ↦ first_fault (length recipe) after items ]
    taken r q = ap (first_fault (length recipe) phase) p ∙ ap (λ (o : Option Phase). elim o [ None ↦ Some (WrongPhase place) | Some after ↦ first_fault (length recipe) after items ]) q

    pub walks : (to : Phase) → step_of phase e ≡ Some to → (sum : ℕ) → sum ≡ min (grams + grams_of e) 4_294_967_295 → Walked recipe items to (lines + 1) sum
    walks to q sum r =
        let size = ap length p in
        let count = ap (λ l. length (lines_of l)) p in
        let weight = ap (λ l. total (lines_of l)) p in
        record {
          fits = omega (arith, w.fits);
          faults = w.faults ∙ taken (Some to) q;
          counts = omega (arith, w.counts);
          bounded = omega arith;
          weighs = omega (arith, w.weighs);
        }

  module _ (p : left ≡ []) where
    pub all_walked : phase ≡ Empty → Ok (record { lines = lines; grams = grams }) ≡ walked recipe
    all_walked e =
        let none = ap (λ l. total (lines_of l)) p in
        let no_line = ap (λ l. length (lines_of l)) p in
        let sum : grams ≡ min (total (entries (held recipe))) 4_294_967_295 = omega (arith, w.weighs, w.bounded) in
        let count : lines ≡ length (entries (held recipe)) = omega (arith, w.counts) in
        (λ i. Ok (record { lines = count i; grams = sum i }))
        ∙ sym (ap (λ r. ruled r (Ok (counted (entries (held recipe))))) (w.faults ∙ ap (first_fault (length recipe) phase) p ∙ ap (end_fault _) e))

-- the judge after the walk
module _ (bs : List ℕ) where
  err_by : (r : Option Refusal) (f : Refusal) → ruled r (Ok (counted (entries (held bs)))) ≡ Err f → Err f ≡ ruled r (weighed (entries (held bs)))
  err_by None f p = absurd (ok_err _ f (sym p))
  err_by (Some g) f p = sym p

  pub fault_told : (f : Refusal) → walked bs ≡ Err f → Err f ≡ verdict bs
  fault_told f p = err_by (fault Empty 0 (held bs)) f p

  ok_by : (r : Option Refusal) (l : Lawful) → ruled r (Ok (counted (entries (held bs)))) ≡ Ok l → (l ≡ counted (entries (held bs))) × (weighed (entries (held bs)) ≡ ruled r (weighed (entries (held bs))))
  ok_by None l p = (ok_same l (counted (entries (held bs))) (sym p), refl)
  ok_by (Some g) l p = absurd (ok_err l g p)

  pub too_heavy : (l : Lawful) → walked bs ≡ Ok l → 12_000_000 < l.grams → Err OverTotal ≡ verdict bs
  too_heavy l p g =
      let found = ok_by (fault Empty 0 (held bs)) l p in
      let sum = ap (λ x. x.grams) found.0 in
      let over : 12_000_000 < total (entries (held bs)) = omega arith in
      sym (cond-false _ _ _ (lt-leb (total (entries (held bs))) 12_000_000 over)) ∙ found.1

  pub all_lawful : (l : Lawful) → walked bs ≡ Ok l → l.grams ≤ 12_000_000 → Ok l ≡ verdict bs
  all_lawful l p g =
      let found = ok_by (fault Empty 0 (held bs)) l p in
      let sum = ap (λ x. x.grams) found.0 in
      let whole : min (total (entries (held bs))) 4_294_967_295 ≡ total (entries (held bs)) = omega arith in
      ap Ok found.0 ∙ (λ i. Ok (record { lines = length (entries (held bs)); grams = whole i }))
      ∙ sym (cond-true _ _ _ (le-leb (total (entries (held bs))) 12_000_000 (omega arith))) ∙ found.1
