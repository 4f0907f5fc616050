-- A line's bytes and the line that is read from them. Assumes nothing.
use Rattle.std.proofs.Common.{◌≡◌, ℕ, suc, ◌+◌, ◌*◌, ◌/◌, ◌%◌, ◌<◌, ◌≤◌, true, cond, ◌&&◌, eqb, leb, ◌⊎◌, List, [], ◌∷◌, ◌++◌, length, get_or, take, drop, Some, None, Ok, Err, Option, Result, sym, refl, ap, ◌∙◌, inl, inr, ⊎_elim, zero-le, arith}
use Rattle.refusal.specs.declared.Refusal.{Refusal}
use Rattle.refusal.specs.declared.Refusal.TheVariants.{BadLine, BufferTooShort}
use Rattle.std.proofs.Math.Seq.{drop-cons}
use Rattle.std.proofs.lemmas.Option.{none-some}
use Rattle.std.proofs.lemmas.Nat.{div-mul-add, mod-mul-add}
use Rattle.std.proofs.lemmas.List.{take_at, drop_at, drop-drop, length-append, length-drop, length-take, length-take-le, take-append-drop}
use Rattle.std.proofs.lemmas.Bool.{le-leb, leb-true, eqb-true, and_parts, cond-true, cond-false, cases_Bool}
use Rattle.recipe.specs.Lines.{Entry, dose, mix, empty, remark, within, in_range, two, four, bytes_of, whole, dose_in, mix_in, remark_in, read_line, Stands, Told, covering, covered, writing, written, ReadBack}

pub between : (low high n : ℕ) → within low high n ≡ true → (low ≤ n) × (n ≤ high)
between low high n h =
    let parts = and_parts (leb low n) (leb n high) h in
    (leb-true low n parts.0, leb-true n high parts.1)

four_back : (n : ℕ) → n ≤ 2_000_000 → n % 256 + n / 256 % 256 * 256 + n / 65_536 % 256 * 65_536 + n / 16_777_216 % 256 * 16_777_216 ≡ n
four_back n h = omega arith

two_back : (n : ℕ) → n ≤ 3_600 → n % 256 + n / 256 % 256 * 256 ≡ n
two_back n h = omega arith

-- the line e, if n bytes are there
there : (n : ℕ) (e : Entry) (bs : List ℕ) → n ≤ length bs → in_range e ≡ true → whole n e bs ≡ Some (e, drop n bs)
there n e bs h r = rw (le-leb n (length bs) h, r)

pub read_back : (e : Entry) (rest : List ℕ) → in_range e ≡ true → read_line (bytes_of e ++ rest) ≡ Some (e, rest)
read_back (dose bin grams) rest h =
    ap (λ g. whole 5 (dose bin g) (bin ∷ four grams ++ rest)) (four_back grams (between 1 2_000_000 grams (and_parts (within 1 32 bin) (within 1 2_000_000 grams) h).1).1)
    ∙ there 5 (dose bin grams) (bin ∷ four grams ++ rest) (omega arith) h
read_back (mix seconds) rest h =
    ap (λ s. whole 2 (mix s) (two seconds ++ rest)) (two_back seconds (between 1 3_600 seconds h).1)
    ∙ there 2 (mix seconds) (two seconds ++ rest) (omega arith) h
read_back empty rest h = there 0 empty rest zero-le refl
read_back (remark text) rest h =
    let size = length text in
    let bs = size ∷ text ++ rest in
    ap (λ t. whole (1 + size) (remark t) bs) (take_at text rest size refl)
    ∙ there (1 + size) (remark text) bs (omega (arith, length-append text rest)) h
    ∙ ap (λ r. Some (remark text, r)) (sym (drop-drop size 1 bs) ∙ drop_at text rest size refl)

whole_some : (n : ℕ) (e : Entry) (bs : List ℕ) (x : Entry × List ℕ) → whole n e bs ≡ Some x → (n ≤ length bs) × (in_range e ≡ true) × (x ≡ (e, drop n bs))
whole_some n e bs x p =
    ⊎_elim
    (λ t. let parts = and_parts (leb n (length bs)) (in_range e) t in
    let q : Some (e, drop n bs) ≡ Some x = sym (cond-true _ (Some (e, drop n bs)) None t) ∙ p in
    (leb-true n (length bs) parts.0, parts.1, cc))
    (λ f. absurd (none-some x (sym (cond-false _ (Some (e, drop n bs)) None f) ∙ p)))
    (cases_Bool (leb n (length bs) && in_range e))

-- the first letter that fits chooses
chosen : (letter k : ℕ) (a b : Option (Entry × List ℕ)) (x : Entry × List ℕ) → cond (eqb letter k) a b ≡ Some x → ((letter ≡ k) × (a ≡ Some x)) ⊎ (b ≡ Some x)
chosen letter k a b x p =
    ⊎_elim
    (λ t. inl (eqb-true letter k t, sym (cond-true _ a b t) ∙ p))
    (λ f. inr (sym (cond-false _ a b f) ∙ p))
    (cases_Bool (eqb letter k))

-- what holds of each kind of line holds of whatever is read
module _ (P : ℕ → List ℕ → Entry → List ℕ → Type 0) where
  at_kind : (k n : ℕ) (e : Entry) (letter : ℕ) (bs : List ℕ) (x : Entry × List ℕ) → (n ≤ length bs → in_range e ≡ true → P k bs e (drop n bs)) → letter ≡ k → whole n e bs ≡ Some x → P letter bs x.0 x.1
  at_kind k n e letter bs x f p q = let w = whole_some n e bs x q in rw (p, w.2) (f w.0 w.1)

  by_kind :
      ((bs : List ℕ) → 5 ≤ length bs → in_range (dose_in bs) ≡ true → P 0x44 bs (dose_in bs) (drop 5 bs))
      → ((bs : List ℕ) → 2 ≤ length bs → in_range (mix_in bs) ≡ true → P 0x4D bs (mix_in bs) (drop 2 bs))
      → ((bs : List ℕ) → P 0x45 bs empty bs)
      → ((bs : List ℕ) → 1 + get_or bs 0 0 ≤ length bs → in_range (remark_in bs) ≡ true → P 0x52 bs (remark_in bs) (drop (1 + get_or bs 0 0) bs))
      → (letter : ℕ) (bs : List ℕ) (x : Entry × List ℕ) → read_line (letter ∷ bs) ≡ Some x → P letter bs x.0 x.1
  by_kind in_d inM inE in_r letter bs x p =
      ⊎_elim (λ d. at_kind 0x44 5 (dose_in bs) letter bs x (in_d bs) d.0 d.1)
      (λ p. ⊎_elim (λ m. at_kind 0x4D 2 (mix_in bs) letter bs x (inM bs) m.0 m.1)
      (λ p. ⊎_elim (λ e. at_kind 0x45 0 empty letter bs x (λ _ _. inE bs) e.0 e.1)
      (λ p. ⊎_elim (λ r. at_kind 0x52 (1 + get_or bs 0 0) (remark_in bs) letter bs x (in_r bs) r.0 r.1) (λ q. absurd (none-some x q))
      (chosen letter 0x52 _ _ x p)) (chosen letter 0x45 _ _ x p)) (chosen letter 0x4D _ _ x p)) (chosen letter 0x44 _ _ x p)

-- a line and the rest take up all the bytes
pub read_length : (bs : List ℕ) (x : Entry × List ℕ) → read_line bs ≡ Some x → length bs ≡ length (bytes_of x.0) + length x.1
read_length [] x p = absurd (none-some x p)
read_length (letter ∷ bs) x p =
    by_kind (λ c bs e rest. suc (length bs) ≡ length (bytes_of e) + length rest)
    (λ bs h r. omega (arith, length-drop 5 bs))
    (λ bs h r. omega (arith, length-drop 2 bs))
    (λ bs. omega arith)
    (λ bs h r. let n = get_or bs 0 0 in omega (arith, length-drop (1 + n) bs, length-take n (drop 1 bs), length-drop 1 bs))
    letter bs x p

-- a digit of n in base 256, from its place
low : (n up a : ℕ) → a < 256 → n ≡ up * 256 + a → n % 256 ≡ a
low n up a h p = ap (λ m. m % 256) p ∙ mod-mul-add up 256 a h

digit : (n w up b rest : ℕ) → rest < w → b < 256 → n ≡ (up * 256 + b) * w + rest → n / w % 256 ≡ b
digit n w up b rest hr hb p =
    ap (λ m. m / w % 256) p ∙ ap (λ m. m % 256) (div-mul-add (up * 256 + b) w rest hr) ∙ mod-mul-add up 256 b hb

four_digits : (a b c d : ℕ) → a < 256 → b < 256 → c < 256 → d < 256 → four (a + b * 256 + c * 65_536 + d * 16_777_216) ≡ a ∷ b ∷ c ∷ d ∷ []
four_digits a b c d ha hb hc hd =
    let n = a + b * 256 + c * 65_536 + d * 16_777_216 in
    let p : n % 256 ≡ a = low n (b + c * 256 + d * 65_536) a ha (omega arith) in
    let q : n / 256 % 256 ≡ b = digit n 256 (c + d * 256) b a ha hb (omega arith) in
    let r : n / 65_536 % 256 ≡ c = digit n 65_536 d c (a + b * 256) (omega arith) hc (omega arith) in
    let s : n / 16_777_216 % 256 ≡ d = digit n 16_777_216 0 d (a + b * 256 + c * 65_536) (omega arith) hd (omega arith) in
    λ i. p i ∷ q i ∷ r i ∷ s i ∷ []

two_digits : (a b : ℕ) → a < 256 → b < 256 → two (a + b * 256) ≡ a ∷ b ∷ []
two_digits a b ha hb =
    let n = a + b * 256 in
    let p : n % 256 ≡ a = low n b a ha (omega arith) in
    let q : n / 256 % 256 ≡ b = digit n 256 0 b a ha hb (omega arith) in
    λ i. p i ∷ q i ∷ []

dose_bytes : (bs : List ℕ) → 5 ≤ length bs → ((i : ℕ) → get_or bs i 0 < 256) → bs ≡ drop 1 (bytes_of (dose_in bs)) ++ drop 5 bs
dose_bytes bs h b =
    drop-cons bs 0 0 (omega arith)
    ∙ ap (λ l. get_or bs 0 0 ∷ l) (drop-cons bs 1 0 (omega arith)
    ∙ ap (λ l. get_or bs 1 0 ∷ l) (drop-cons bs 2 0 (omega arith)
    ∙ ap (λ l. get_or bs 2 0 ∷ l) (drop-cons bs 3 0 (omega arith)
    ∙ ap (λ l. get_or bs 3 0 ∷ l) (drop-cons bs 4 0 (omega arith)))))
    ∙ ap (λ l. get_or bs 0 0 ∷ l ++ drop 5 bs) (sym (four_digits _ _ _ _ (b 1) (b 2) (b 3) (b 4)))

mix_bytes : (bs : List ℕ) → 2 ≤ length bs → ((i : ℕ) → get_or bs i 0 < 256) → bs ≡ drop 1 (bytes_of (mix_in bs)) ++ drop 2 bs
mix_bytes bs h b =
    drop-cons bs 0 0 (omega arith) ∙ ap (λ l. get_or bs 0 0 ∷ l) (drop-cons bs 1 0 (omega arith))
    ∙ ap (λ l. l ++ drop 2 bs) (sym (two_digits _ _ (b 0) (b 1)))

remark_bytes : (bs : List ℕ) → 1 + get_or bs 0 0 ≤ length bs → bs ≡ drop 1 (bytes_of (remark_in bs)) ++ drop (1 + get_or bs 0 0) bs
remark_bytes bs h =
    let n = get_or bs 0 0 in
    let size : n ≡ length (take n (drop 1 bs)) = sym (length-take-le n (drop 1 bs) (omega (arith, length-drop 1 bs))) in
    drop-cons bs 0 0 (omega arith)
    ∙ ap (λ l. n ∷ l) (sym (take-append-drop n (drop 1 bs)) ∙ ap (λ l. take n (drop 1 bs) ++ l) (drop-drop n 1 bs))
    ∙ ap (λ k. k ∷ take n (drop 1 bs) ++ drop (1 + n) bs) size

-- whatever is read stood there
pub sound : (bs : List ℕ) (x : Entry × List ℕ) → ((i : ℕ) → get_or bs i 0 < 256) → read_line bs ≡ Some x → Stands x.0 x.1 bs
sound [] x b p = absurd (none-some x p)
sound (letter ∷ bs) x b p =
    by_kind (λ c bs e rest. ((i : ℕ) → get_or bs i 0 < 256) → Stands e rest (c ∷ bs))
    (λ bs h r b. (r, ap (λ l. 0x44 ∷ l) (dose_bytes bs h b)))
    (λ bs h r b. (r, ap (λ l. 0x4D ∷ l) (mix_bytes bs h b)))
    (λ bs b. (refl, refl))
    (λ bs h r b. (r, ap (λ l. 0x52 ∷ l) (remark_bytes bs h)))
    letter bs x p (λ i. b (suc i))

-- reading tells whether a line stands there
pub told : (bs : List ℕ) (r : Option (Entry × List ℕ)) → ((i : ℕ) → get_or bs i 0 < 256) → r ≡ read_line bs → Told bs r
told bs None b p = λ e rest h. none-some (e, rest) (p ∙ ap read_line h.1 ∙ read_back e rest h.0)
told bs (Some x) b p = sound bs x b (sym p)

pub ok_err : {X Y : Type 0} (x : X) (y : Y) → Err y ≡ Ok x → ⊥
ok_err x y p = let z : ◌≡◌ {A = ℕ} 0 1 = cc in omega arith

-- what is written in a buffer with room
granted : (e : Entry) (out : List ℕ) → in_range e ≡ true → (n : ℕ) → writing e out ≡ Ok n → written e out ≡ bytes_of e ++ drop n out
granted e out h n p =
    let q : covering (bytes_of e) out ≡ Ok n = sym (cond-true (in_range e) (covering (bytes_of e) out) (Err (BadLine 0)) h) ∙ p in
    cond-true (in_range e) (covered (bytes_of e) out) out h
    ∙ ⊎_elim
    (λ t. let s : Ok (length (bytes_of e)) ≡ Ok n = sym (cond-true _ (Ok (length (bytes_of e))) (Err BufferTooShort) t) ∙ q in
    let k : length (bytes_of e) ≡ n = cc in
    cond-true _ (bytes_of e ++ drop (length (bytes_of e)) out) out t ∙ ap (λ m. bytes_of e ++ drop m out) k)
    (λ f. absurd (ok_err n BufferTooShort (sym (cond-false _ (Ok (length (bytes_of e))) (Err BufferTooShort) f) ∙ q)))
    (cases_Bool (leb (length (bytes_of e)) (length out)))

pub written_back : (e : Entry) (out after : List ℕ) (r : Result ℕ Refusal) → r ≡ writing e out → after ≡ written e out → ReadBack e out after r
written_back e out after r v a n p =
    ⊎_elim
    (λ h. ap read_line (a ∙ granted e out h n (sym v ∙ p)) ∙ read_back e (drop n out) h)
    (λ f. absurd (ok_err n (BadLine 0) (sym (cond-false (in_range e) (covering (bytes_of e) out) (Err (BadLine 0)) f) ∙ sym v ∙ p)))
    (cases_Bool (in_range e))
