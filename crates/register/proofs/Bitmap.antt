-- Bits of the chart's words: one that is set, and those of a blank chart.
-- Assumes nothing.
use Rattle.std.proofs.Common.{◌≡◌, ℕ, ◌*◌, ◌/◌, ◌%◌, ◌^◌, ◌<◌, false, ◌&&◌, ◌||◌, eqb, ltb, List, length, get_or, set, max, replicate, sym, ap, ◌∙◌, ⊎_elim, arith}
use mathlib.Core.Path.{fun_ext}
use native.Mathlib.Nat.{zero-div}
use lib.Bits.{bit_and, bit_or, and_mask}
use Rattle.std.proofs.lemmas.Nat.{one_shl, mod_below}
use Rattle.std.proofs.lemmas.List.{get_or-set_same, get_or-set_other, get_or-replicate, get_or_past}
use Rattle.std.proofs.lemmas.Bool.{cases_lt, cases_eq, and_right, le-ltb, lt-ltb, eq-eqb, ne_eqb}
use Rattle.std.proofs.lemmas.Nat.Bits.{bit_at-pow_same, bit_at-pow_other, bit_at_or}
use Rattle.std.specs.Int.{bit_at}
use Rattle.register.specs.Chart.{bit, charted}
use Rattle.register.specs.Runs.{with_number}

bit_and_one : (w k : ℕ) → eqb (bit_and (w / 2 ^ k) 1) 1 ≡ bit w k
bit_and_one w k = ap (λ x. eqb x 1) (and_mask (w / 2 ^ k) 1)

-- what the chart's test answers
pub holds_at : (ws : List ℕ) (n : ℕ) → n < 4096 → eqb (bit_and (get_or ws (n / 64) 0 / 2 ^ (n % 64)) 1) 1 ≡ charted ws n
holds_at ws n h = bit_and_one (get_or ws (n / 64) 0) (n % 64) ∙ ap (λ b. b && bit (get_or ws (n / 64) 0) (n % 64)) (sym (lt-ltb n 4096 h))

pub bit_set : (w k j : ℕ) → bit (bit_or w (2 ^ k)) j ≡ (eqb j k || bit w j)
bit_set w k j =
    ⊎_elim
    (λ e. eq-eqb _ 1 (bit_at_or w (2 ^ k) j ∙ highest (bit_at w j) (mod_below _ 2 (omega arith)) (ap (bit_at (2 ^ k)) e ∙ bit_at-pow_same k)) ∙ ap (λ b. b || bit w j) (sym (eq-eqb j k e)))
    (λ ne. ap (λ x. eqb x 1) (bit_at_or w (2 ^ k) j ∙ lowest (bit_at w j) (bit_at-pow_other k j ne)) ∙ ap (λ b. b || bit w j) (sym (ne_eqb j k ne)))
    (cases_eq j k)
  where
    highest : {b : ℕ} (a : ℕ) → a < 2 → b ≡ 1 → max a b ≡ 1
    highest a h e = omega arith

    lowest : {b : ℕ} (a : ℕ) → b ≡ 0 → max a b ≡ a
    lowest a e = omega arith

pub blank_chart : charted (replicate 64 0) ≡ (λ n. false)
blank_chart = fun_ext (λ n. and_right (ltb n 4096) _ (ap (λ w. bit w (n % 64)) (zeros (n / 64)) ∙ ap (λ x. eqb (x % 2) 1) (zero-div (2 ^ (n % 64)))))
  where
    zeros : (i : ℕ) → ◌≡◌ {A = ℕ} (get_or (replicate 64 0) i 0) 0
    zeros i = ⊎_elim (get_or-replicate 64 i 0 0) (λ h. get_or_past (replicate 64 0) i 0 h) (cases_lt i 64)

abbrev with_bit : List ℕ → ℕ → List ℕ
with_bit ws n = set ws (n / 64) (bit_or (get_or ws (n / 64) 0) (2 ^ (n % 64)))

eqb_mod : (k n : ℕ) → k / 64 ≡ n / 64 → eqb (k % 64) (n % 64) ≡ eqb k n
eqb_mod k n e = ⊎_elim (λ q. eq-eqb (k % 64) (n % 64) (omega arith) ∙ sym (eq-eqb k n q)) (λ ne. ne_eqb (k % 64) (n % 64) (λ z. ne (omega arith)) ∙ sym (ne_eqb k n ne)) (cases_eq k n)

same_word : (ws : List ℕ) (n k : ℕ) → n < 4096 → length ws ≡ 64 → k / 64 ≡ n / 64 → bit (get_or (with_bit ws n) (k / 64) 0) (k % 64) ≡ (eqb k n || bit (get_or ws (k / 64) 0) (k % 64))
same_word ws n k h long e =
    ap (λ i. bit (get_or (with_bit ws n) i 0) (k % 64)) e ∙
    ap (λ w. bit w (k % 64)) (get_or-set_same ws (n / 64) _ 0 (omega arith)) ∙
    bit_set (get_or ws (n / 64) 0) (n % 64) (k % 64) ∙
    ap (λ b. b || bit (get_or ws (n / 64) 0) (k % 64)) (eqb_mod k n e) ∙
    ap (λ i. eqb k n || bit (get_or ws i 0) (k % 64)) (sym e)

other_word : (ws : List ℕ) (n k : ℕ) → (k / 64 ≡ n / 64 → ⊥) → bit (get_or (with_bit ws n) (k / 64) 0) (k % 64) ≡ (eqb k n || bit (get_or ws (k / 64) 0) (k % 64))
other_word ws n k ne =
    ap (λ w. bit w (k % 64)) (get_or-set_other ws (n / 64) (k / 64) _ 0 ne) ∙
    ap (λ b. b || bit (get_or ws (k / 64) 0) (k % 64)) (sym (ne_eqb k n (λ z. ne (ap (λ x. x / 64) z))))

each_number : (ws : List ℕ) (n k : ℕ) → n < 4096 → length ws ≡ 64 → charted (with_bit ws n) k ≡ with_number (charted ws) n k
each_number ws n k h long =
    ⊎_elim
    (λ lt.
    let t = lt-ltb k 4096 lt in
    ap (λ b. b && bit (get_or (with_bit ws n) (k / 64) 0) (k % 64)) t ∙
    ⊎_elim (same_word ws n k h long) (other_word ws n k) (cases_eq (k / 64) (n / 64)) ∙
    ap (λ b. eqb k n || (b && bit (get_or ws (k / 64) 0) (k % 64))) (sym t))
    (λ ge.
    let t = le-ltb k 4096 ge in
    let d = ne_eqb k n (λ z. omega arith) in
    ap (λ b. b && bit (get_or (with_bit ws n) (k / 64) 0) (k % 64)) t ∙
    sym (λ i. d i || (t i && bit (get_or ws (k / 64) 0) (k % 64))))
    (cases_lt k 4096)

-- the chart with number n set
pub charted_set : (ws : List ℕ) (n : ℕ) → n < 4096 → length ws ≡ 64 → charted (set ws (n / 64) (bit_or (get_or ws (n / 64) 0) (1 * 2 ^ (n % 64) % 18446744073709551616))) ≡ with_number (charted ws) n
charted_set ws n h long =
    ap (λ v. charted (set ws (n / 64) (bit_or (get_or ws (n / 64) 0) v))) (one_shl (n % 64) 64 (mod_below n 64 (omega arith))) ∙
    fun_ext (λ k. each_number ws n k h long)
