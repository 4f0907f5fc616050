-- M, in the form in which it is quick: it moves a column by one cell. Assumes nothing.
use Rattle.std.proofs.Common.{◌≡◌, ℕ, List, [], ◌∷◌, ◌++◌, map, length, get_or, drop, sym, refl, ap, ◌∙◌}
use lib.Bits.{xor_zero_r}
use Rattle.std.specs.List.{range_with_len}
use Rattle.std.proofs.lemmas.List.FromFn.{fill_by_all}
use Rattle.photon.specs.Cells.{last_row}
use Rattle.photon.specs.Field.{times, dot}
use Rattle.photon.specs.Photon.{by_m}

-- M moves cells 1 to 7 up by one, and makes the last cell of all eight
abbrev pub moved : List ℕ → List ℕ
moved c = drop 1 c ++ dot last_row c ∷ []

times_0 : (x : ℕ) → times 0 x ≡ 0
unfolding times
times_0 x = refl

times_1 : (x : ℕ) → times 1 x ≡ x
unfolding times
times_1 x = xor_zero_r x

pub by_m_eight : (a b c d e f g h : ℕ) → by_m (a ∷ b ∷ c ∷ d ∷ e ∷ f ∷ g ∷ h ∷ []) ≡ moved (a ∷ b ∷ c ∷ d ∷ e ∷ f ∷ g ∷ h ∷ [])
unfolding by_m
by_m_eight a b c d e f g h = simp (times_0, times_1, xor_zero_r)

-- a column of eight cells, written out
pub eight : (c : List ℕ) → length c ≡ 8 → c ≡ map (λ i. get_or c i 0) (range_with_len 0 8)
eight c long = fill_by_all (λ i. get_or c i 0) c 8 0 long (λ i h. refl)

pub by_m_moved : (c : List ℕ) → length c ≡ 8 → by_m c ≡ moved c
by_m_moved c long =
    ap by_m (eight c long)
    ∙ by_m_eight (get_or c 0 0) (get_or c 1 0) (get_or c 2 0) (get_or c 3 0) (get_or c 4 0) (get_or c 5 0) (get_or c 6 0) (get_or c 7 0)
    ∙ ap moved (sym (eight c long))
