-- What a write at a place leaves before it and behind it.
-- Assumes nothing.
use Rattle.std.proofs.Common.{◌≡◌, ℕ, ◌+◌, ◌-◌, ◌*◌, ◌≤◌, List, [], ◌∷◌, ◌++◌, length, take, drop, sym, refl, ap, ◌∙◌, arith}
use borrow.Rule.Slice.PartMut.{put_mid}
use Rattle.std.proofs.lemmas.List.{append_assoc, length-append, length-drop, length-take-le, take_at, drop-drop}
use Rattle.std.specs.List.{flat_map}
use Rattle.register.specs.Page.{pair_bytes, page}
use Rattle.register.specs.Runs.{Numbers, Pair, runs_from, runs, run_count}
use Rattle.register.proofs.Walk.{Step}

-- a part of length k at a, overwritten
pub put_at : (xs ys ws : List ℕ) (a k : ℕ) → ys ≡ ws → put_mid a (a + k - a) xs ys ≡ take a xs ++ (ws ++ drop (a + k) xs)
put_at xs ys ws a k e =
    let f : a + k - a ≡ k = omega arith in
    ap (λ m. put_mid a m xs ys) f ∙ (λ i. take a xs ++ (e i ++ drop-drop k a xs i))

pub length_runs : (ps : List Pair) → length (flat_map pair_bytes ps) ≡ 4 * length ps
length_runs [] = refl
length_runs (p ∷ ps) = omega (arith, length_runs ps)

pub length_page : (u : Numbers) → length (page u) ≡ 2 + 4 * run_count u
length_page u = omega (arith, length_runs (runs u))

-- a buffer for the runs, which holds ys now: the runs before `from` are written, up to `place`
pub record Wrote (u : Numbers) (from place : ℕ) (ys : List ℕ) : Type 0 where
  pub within : from ≤ 4096
  pub left : place + 4 * length (runs_from u from) ≡ length ys
  pub front : take place ys ++ flat_map pair_bytes (runs_from u from) ≡ flat_map pair_bytes (runs u)

module _ (u : Numbers) where
  pub wrote_more : (from place : ℕ) (ys zs : List ℕ) (p : Pair) → Step u from p → Wrote u from place ys → zs ≡ take place ys ++ (pair_bytes p ++ drop (place + 4) ys) → Wrote u (p.0 + p.1) (place + 4) zs
  wrote_more from place ys zs p s w e =
      let room : place + 4 ≤ length ys = omega (arith, ap length s.from, w.left) in
      let front : length (take place ys) ≡ place = length-take-le place ys (omega arith) in
      let end : length (take place ys ++ pair_bytes p) ≡ place + 4 = length-append (take place ys) (pair_bytes p) ∙ omega arith in
      let is : zs ≡ (take place ys ++ pair_bytes p) ++ drop (place + 4) ys = e ∙ sym (append_assoc (take place ys) (pair_bytes p) (drop (place + 4) ys)) in
      let long : length zs ≡ length ys = ap length is ∙ length-append (take place ys ++ pair_bytes p) (drop (place + 4) ys) ∙ omega (arith, end, length-drop (place + 4) ys) in
      let rest : List ℕ = flat_map pair_bytes (runs_from u (p.0 + p.1)) in
      record {
        within = s.high;
        left = omega (arith, ap length s.from, w.left, long);
        front =
            ap (λ l. l ++ rest) (ap (take (place + 4)) is ∙ take_at (take place ys ++ pair_bytes p) (drop (place + 4) ys) (place + 4) end) ∙
            append_assoc (take place ys) (pair_bytes p) rest ∙
            ap (λ ps. take place ys ++ flat_map pair_bytes ps) (sym s.from) ∙ w.front;
      }
