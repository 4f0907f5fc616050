-- The law of the bench engine: a list of bytes, turned end for end, is a list of bytes. A lemma, and no definition.
use Rattle.std.proofs.Common.{sym, subst, ⊎_elim, arith}
use Rattle.std.specs.Prelude.{ℕ, ◌-◌, ◌<◌, List, reverse, length, slice_index}
use Rattle.std.proofs.lemmas.List.{length-reverse, get_or-reverse, get_or_past}
use Rattle.std.proofs.lemmas.Bool.{cases_lt}

pub small_reverse : (s : List ℕ) → ((i : ℕ) → slice_index s i < 256) → (i : ℕ) → slice_index (reverse s) i < 256
small_reverse s h i =
    ⊎_elim
    (λ l. subst (λ n. n < 256) (sym (get_or-reverse s i 0 l)) (h (length s - 1 - i)))
    (λ g. subst (λ n. n < 256) (sym (get_or_past (reverse s) i 0 (omega (arith, length-reverse s)))) (omega arith))
    (cases_lt i (length s))
