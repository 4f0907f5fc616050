-- Arrays whose elements a closure makes that changes nothing it holds. Assumes nothing.
use Rattle.std.proofs.Common.{◌≡◌, ℕ, zero, suc, ◌+◌, ◌<◌, ◌≤◌, List, map, length, get_or, sym, refl, ap, ◌∙◌, subst, ⊎_elim, arith}
use Rattle.std.specs.List.{range_with_len}
use Rattle.std.specs.Array.{IsFromFnResultFrom, IsFromFnResult, MapsFrom, IsMapOf}
use Rattle.std.specs.Fn.{Called, Mut}
use Rattle.std.proofs.lemmas.Bool.{cases_eq}
use Rattle.std.proofs.lemmas.List.FromFn.{fill_by_all}
use Rattle.std.proofs.lemmas.List.{get_or-map, length-map}

-- `array::from_fn`: the closure gives h i at i as long as what `key` reads of it is `held`, and leaves that as it was
module _ {F B K : Type 0} (g : Mut F (ℕ × Unit {0}) B) (h : ℕ → B) (key : F → K) (held : K) (n : ℕ) (calls : (i : ℕ) (y : B) (p q : F) → i < n → key p ≡ held → Called g p (i, tt) y q → (key q ≡ held) × (y ≡ h i)) where
  made_from : (f : F) (ys : List B) (d : B) (m i : ℕ) → key f ≡ held → i + m ≤ n → IsFromFnResultFrom g f ys i m → (k : ℕ) → i ≤ k → k < i + m → get_or ys k d ≡ h k
  made_from f ys d zero i same within e k low high = absurd (omega arith)
  made_from f ys d (suc m) i same within e k low high =
      let told = calls i e.1 f e.0 (omega arith) same e.3 in
      ⊎_elim
      (λ here. subst (λ j. get_or ys j d ≡ h j) (sym here) (e.2.1 d ∙ told.1))
      (λ other. made_from e.0 ys d m (i + 1) told.0 (omega arith) e.4 k (omega arith) (omega arith))
      (cases_eq k i)

  pub from_fn_kept : (f : F) (ys : List B) (d : B) → key f ≡ held → IsFromFnResult g f ys n → ys ≡ map h (range_with_len 0 n)
  from_fn_kept f ys d same made = fill_by_all h ys n d made.long (λ k high. made_from f ys d n 0 same (omega arith) made.each k (omega arith) (omega arith))

-- the same, where each call leaves the whole closure as it was
pub from_fn_same : {F B : Type 0} (g : Mut F (ℕ × Unit {0}) B) (h : ℕ → B) (f : F) (n : ℕ) → ((i : ℕ) (y : B) (q : F) → i < n → Called g f (i, tt) y q → (q ≡ f) × (y ≡ h i)) → (ys : List B) (d : B) → IsFromFnResult g f ys n → ys ≡ map h (range_with_len 0 n)
from_fn_same {F} g h f n calls ys d made =
    from_fn_kept g h (λ (p : F). p) f n (λ i y p q below same told. calls i y q below (subst (λ (r : F). Called g r (i, tt) y q) same told)) f ys d refl made

-- an array's `map`
module _ {F A B : Type 0} (g : Mut F (A × Unit {0}) B) (h : A → B) (f : F) (calls : (x : A) (y : B) (q : F) → Called g f (x, tt) y q → (q ≡ f) × (y ≡ h x)) (xs : List A) (ys : List B) where
  mapped_from : (a : A) (b : B) (m i : ℕ) → MapsFrom g f xs ys i m → (k : ℕ) → i ≤ k → k < i + m → get_or ys k b ≡ h (get_or xs k a)
  mapped_from a b zero i e k low high = absurd (omega arith)
  mapped_from a b (suc m) i e k low high =
      let told = calls e.1 e.2 e.0 e.5 in
      ⊎_elim
      (λ here. subst (λ j. get_or ys j b ≡ h (get_or xs j a)) (sym here) (e.4.1 b ∙ told.1 ∙ ap h (sym (e.3.1 a))))
      (λ other. mapped_from a b m (i + 1) (subst (λ (p : F). MapsFrom g p xs ys (i + 1) m) told.0 e.6) k (omega arith) (omega arith))
      (cases_eq k i)

  pub map_same : (n : ℕ) (a : A) (b : B) → length xs ≡ n → IsMapOf g f xs ys n → ys ≡ map h xs
  map_same n a b long made =
      fill_by_all (λ k. h (get_or xs k a)) ys n b made.long (λ k high. mapped_from a b n 0 made.each k (omega arith) (omega arith))
      ∙ sym (fill_by_all (λ k. h (get_or xs k a)) (map h xs) n b (length-map xs h ∙ long) (λ k high. get_or-map h xs k a b (omega arith)))
