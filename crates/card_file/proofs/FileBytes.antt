-- The bytes of a card file, written and read.
use Rattle.std.proofs.Common.{◌≡◌, ℕ, zero, suc, ◌+◌, ◌-◌, ◌*◌, ◌<◌, ◌≤◌, Bool, cond, List, [], ◌∷◌, ◌++◌, length, take, drop, set, Ok, Err, Result, sym, refl, ap, ◌∙◌, ap₂, append_assoc, arith, length-append}
use Rattle.std.proofs.lemmas.List.{take_at, drop_at, drop-drop, append-nil}
use Rattle.std.proofs.lemmas.Bool.{lt-ltb, le-ltb}
use Rattle.code.specs.declared.refusal.Section.{Section}
use Rattle.code.specs.declared.refusal.Refusal.{Refusal}
use Rattle.code.specs.declared.refusal.Refusal.TheVariants.{BytesEndEarly}
use Rattle.card.specs.Cards.{Card, rows_of, verdict, pushed}
use Rattle.card_file.specs.Files.{row_bytes, row_of, rows_bytes, section_bytes, file_of, read_rows_lem, on_ok}

pub bytes_push : (xs : List ℕ) (r : ℕ) → rows_bytes (xs ++ r ∷ []) ≡ rows_bytes xs ++ row_bytes r
bytes_push [] r = append-nil (row_bytes r)
bytes_push (x ∷ xs) r = ap (λ (l : List ℕ). row_bytes x ++ l) (bytes_push xs r) ∙ sym (append_assoc (row_bytes x) (rows_bytes xs) (row_bytes r))

pub bytes_length : (xs : List ℕ) → length (rows_bytes xs) ≡ 8 * length xs
bytes_length [] = refl
bytes_length (x ∷ xs) = length-append (row_bytes x) (rows_bytes xs) ∙ omega (arith, bytes_length xs)

-- one piece more after what is written
pub written_more : (E B out new : List ℕ) (p k : ℕ) → length B ≡ p → out ≡ B ++ drop p E → take p out ++ (new ++ drop k (drop p out)) ≡ (B ++ new) ++ drop (p + k) E
written_more E B out new p k l e =
    let front : take p out ≡ B = ap (take p) e ∙ take_at B (drop p E) p l in
    let back : drop k (drop p out) ≡ drop (p + k) E = ap (drop k) (ap (drop p) e ∙ drop_at B (drop p E) p l) ∙ drop-drop k p E in
    ap₂ (λ (x y : List ℕ). x ++ (new ++ y)) front back ∙ sym (append_assoc B new (drop (p + k) E))

-- a first byte, and what is written after it
pub first_then : (n k : ℕ) (new out : List ℕ) → 0 < length out → take 1 (set out 0 n) ++ (new ++ drop k (drop 1 (set out 0 n))) ≡ n ∷ (new ++ drop (suc k) out)
first_then n k new [] h = absurd (omega arith)
first_then n k new (x ∷ out) h = refl

-- ---- reading rows

pub read_short : (s : Section) (n : ℕ) (k : Card) (bs : List ℕ) → 0 < n → length bs < 8 → read_rows_lem s n k bs ≡ Err BytesEndEarly
read_short s zero k bs h l = absurd (omega arith)
read_short s (suc n) k bs h l = let t = lt-ltb (length bs) 8 l in simp t

pub read_refused : (s : Section) (n : ℕ) (k : Card) (bs : List ℕ) (e : Refusal) → 0 < n → 8 ≤ length bs → Err e ≡ verdict k s (row_of (take 8 bs)) → read_rows_lem s n k bs ≡ Err e
read_refused s zero k bs e h l v = absurd (omega arith)
read_refused s (suc n) k bs e h l v =
    let t = le-ltb (length bs) 8 l in
    let row = row_of (take 8 bs) in
    ap (λ (b : Bool). cond b (Err BytesEndEarly) (on_ok (verdict k s row) (λ _. read_rows_lem s n (pushed k s row) (drop 8 bs)))) t
    ∙ ap (λ (r : Result (Unit {0}) Refusal). on_ok r (λ _. read_rows_lem s n (pushed k s row) (drop 8 bs))) (sym v)

pub read_more : (s : Section) (n : ℕ) (k : Card) (bs : List ℕ) (u : Unit {0}) → 0 < n → 8 ≤ length bs → Ok u ≡ verdict k s (row_of (take 8 bs))
    → read_rows_lem s n k bs ≡ read_rows_lem s (n - 1) (pushed k s (row_of (take 8 bs))) (drop 8 bs)
read_more s zero k bs u h l v = absurd (omega arith)
read_more s (suc n) k bs u h l v =
    let t = le-ltb (length bs) 8 l in
    let row = row_of (take 8 bs) in
    let m : n ≡ suc n - 1 = omega arith in
    ap (λ (b : Bool). cond b (Err BytesEndEarly) (on_ok (verdict k s row) (λ _. read_rows_lem s n (pushed k s row) (drop 8 bs)))) t
    ∙ ap (λ (r : Result (Unit {0}) Refusal). on_ok r (λ _. read_rows_lem s n (pushed k s row) (drop 8 bs))) (sym v)
    ∙ ap (λ (j : ℕ). read_rows_lem s j (pushed k s row) (drop 8 bs)) m

-- ---- a file written section by section

pub section_length : (xs : List ℕ) → length (section_bytes xs) ≡ 1 + 8 * length xs
section_length xs = omega (arith, bytes_length xs)

rows_length : (k : Card) → length (rows_of k) ≡ length k.group + length k.transform + length k.coset
rows_length k = omega (arith, length-append k.group (k.transform ++ k.coset), length-append k.transform k.coset)

pub file_length : (k : Card) → length (file_of k) ≡ 4 + 8 * length (rows_of k)
file_length k =
    omega (
      arith,
      length-append (section_bytes k.group) (section_bytes k.transform ++ section_bytes k.coset),
      length-append (section_bytes k.transform) (section_bytes k.coset),
      section_length k.group,
      section_length k.transform,
      section_length k.coset,
      rows_length k,
    )

pub file_written : (k : Card) (n size : ℕ) (new out : List ℕ) → 0 < length out → n ≡ k.len → size ≡ length (file_of k) → new ≡ section_bytes k.group ++ (section_bytes k.transform ++ section_bytes k.coset)
    → take 1 (set out 0 n) ++ (new ++ drop (size - 1) (drop 1 (set out 0 n))) ≡ file_of k ++ drop (length (file_of k)) out
file_written k n size new out some e all is =
    let last : suc (size - 1) ≡ length (file_of k) = omega (arith, all, file_length k) in
    first_then n (size - 1) new out some
    ∙ ap (λ (m : ℕ). n ∷ (new ++ drop m out)) last
    ∙ ap₂ (λ (x : ℕ) (y : List ℕ). x ∷ (y ++ drop (length (file_of k)) out)) e is

-- a card by its parts
pub card_is : (k : Card) {n : ℕ} {g t c : List ℕ} → n ≡ k.len → g ≡ k.group → t ≡ k.transform → c ≡ k.coset
    → ◌≡◌ {A = Card} (record { len = n; group = g; transform = t; coset = c }) k
card_is k a p q r i = record { len = a i; group = p i; transform = q i; coset = r i }
