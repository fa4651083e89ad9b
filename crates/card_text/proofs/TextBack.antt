-- A card that is written as text is read back the same.
use Rattle.std.proofs.Common.{◌≡◌, ℕ, zero, suc, ◌+◌, ◌-◌, ◌*◌, ◌/◌, ◌%◌, ◌^◌, ◌<◌, ◌≤◌, Bool, true, false, cond, ◌&&◌, eqb, ltb, leb, List, [], ◌∷◌, ◌++◌, length, get_or, take, drop, Some, None, Ok, codes, sym, refl, ap, ◌∙◌, inl, inr, append_assoc, div-add-mod', arith}
use native.Mathlib.Nat.{two-pow-succ}
use Rattle.std.proofs.lemmas.List.{append-nil, get_or_past, take_at}
use Rattle.std.proofs.lemmas.List.Elements.{All-from_get_or}
use Rattle.std.proofs.lemmas.List.Splits.{slice_split_at}
use Rattle.std.specs.List.{All}
use Rattle.std.proofs.lemmas.Bool.Decides.{nat_tests}
use Rattle.std.proofs.lemmas.Bool.{cases_lt, eq-eqb, le-leb, le-ltb, lt-ltb, ne_eqb}
use Rattle.code.specs.declared.refusal.Section.{Section}
use Rattle.code.specs.declared.refusal.Section.TheVariants.{Group, Transform, Coset}
use Rattle.code.specs.Limits.{Length}
use Rattle.card.specs.Rows.{Within}
use Rattle.card.specs.Cards.{Card, Lawful, blank, pushed, verdict}
use Rattle.card.proofs.Tables.{within_left, within_right}
use Rattle.card_file.proofs.LetIn.{accepts, with_rows, with_group, with_transform, with_coset, let_in}
use Rattle.card_text.specs.Lines.{decimal_of_lem, first_odd_lem, lines_of, row_of, row_read, trimmed}
use Rattle.card_text.specs.Drafts.{Stage, unset, taking, line_read, lines_read, rank, read_text_lem, row_added, started}
use Rattle.card_text.specs.Texts.{decimal_text, digits_of, label_of, length_line, row_line, section_text, text_of}
use Rattle.card_text.proofs.Writings.{digits_length}

-- ---- lines of bytes above those that end lines

plain : List ℕ → Bool
plain [] = true
plain (b ∷ bs) = ltb 13 b && plain bs

plain-append : (xs ys : List ℕ) → plain xs ≡ true → plain ys ≡ true → plain (xs ++ ys) ≡ true
unfolding plain
plain-append [] ys p q = q
plain-append (x ∷ xs) ys p q = grind (arith, nat_tests, plain-append xs ys)

plain_at : (line : List ℕ) (i : ℕ) → plain line ≡ true → i < length line → 13 < get_or line i 0
unfolding plain
plain_at [] i p h = absurd (omega arith)
plain_at (b ∷ bs) zero p h = grind (arith, nat_tests)
plain_at (b ∷ bs) (suc i) p h = grind (arith, nat_tests, plain_at bs i)

plain-trimmed : (line : List ℕ) → plain line ≡ true → trimmed line ≡ line
plain-trimmed line p =
    let last = get_or line (length line - 1) 0 in
    let other : last ≡ 13 → ⊥ = λ e. elim (cases_lt 0 (length line)) [
      | inl h ↦ omega (arith, e, plain_at line (length line - 1) p (omega arith))
      | inr h ↦ omega (arith, e, get_or_past line (length line - 1) 0 (omega arith))
    ] in
    ap (λ (b : Bool). cond b (take (length line - 1) line) line) (ne_eqb last 13 other)

plain_all : (line : List ℕ) → plain line ≡ true → All (λ b. eqb b 10 ≡ false) line
plain_all line p = All-from_get_or (λ b. eqb b 10 ≡ false) line 0 (λ i h. ne_eqb (get_or line i 0) 10 (λ e. omega (arith, e, plain_at line i p h)))

plain_lines : (line rest : List ℕ) → plain line ≡ true → lines_of (line ++ 10 ∷ rest) ≡ line ∷ lines_of rest
plain_lines line rest p = slice_split_at (λ b. eqb b 10) line 10 rest (plain_all line p) refl

-- one line of a text
read_one : (d e : Stage) (i : ℕ) (line rest : List ℕ) → plain line ≡ true → line_read d line ≡ Ok e
    → lines_read d i (lines_of (line ++ 10 ∷ rest)) ≡ lines_read e (i + 1) (lines_of rest)
read_one d e i line rest p ok =
    ap (lines_read d i) (plain_lines line rest p) ∙ simp (plain-trimmed line p, ok)

-- ---- digits

digits_plain : (n row : ℕ) → plain (digits_of n row) ≡ true
unfolding plain
digits_plain zero row = refl
digits_plain (suc n) row = grind (arith, nat_tests, digits_plain n (row / 2))

digits_binary : (n row i : ℕ) → first_odd_lem i (digits_of n row) ≡ None
digits_binary zero row i = refl
digits_binary (suc n) row i = grind (arith, nat_tests, digits_binary n (row / 2) (i + 1))

digits_row : (n row : ℕ) → row < 2 ^ n → row_of (digits_of n row) ≡ row
digits_row zero row h = omega arith
digits_row (suc n) row h =
    let half : row / 2 < 2 ^ n = omega (arith, two-pow-succ n) in
    omega (arith, digits_row n (row / 2) half)

row_back : (n : ℕ) (s : Section) (row : ℕ) → row < 2 ^ n → row_read n s (digits_of n row) ≡ Ok row
row_back n s row h =
    simp (eq-eqb (length (digits_of n row)) n (digits_length n row), digits_binary n row 0, digits_row n row h)

-- ---- a line of a row

label_plain : (s : Section) → plain (label_of s) ≡ true
unfolding plain
label_plain Group = refl
label_plain Transform = refl
label_plain Coset = refl

label_read : (s : Section) (d : Stage) (ds : List ℕ) → line_read d (label_of s ++ ds) ≡ row_added s d ds
label_read Group d ds = refl
label_read Transform d ds = refl
label_read Coset d ds = refl

row_added_ok : (n : ℕ) (s o : Section) (k : Card) (row : ℕ) → rank o ≤ rank s → row < 2 ^ n → Ok tt ≡ verdict k s row
    → row_added s (taking n o k) (digits_of n row) ≡ Ok (taking n s (pushed k s row))
row_added_ok n s o k row le h v =
    simp (le-ltb (rank s) (rank o) le, row_back n s row h, sym v)

row_line-append : (n : ℕ) (s : Section) (row : ℕ) (rest : List ℕ) → row_line s n row ++ rest ≡ (label_of s ++ digits_of n row) ++ 10 ∷ rest
row_line-append n s row rest = simp append_assoc

-- ---- the lines of a section

last_open : Section → Section → List ℕ → Section
last_open o s [] = o
last_open o s (r ∷ rs) = last_open s s rs

last_rank : (o s : Section) (rows : List ℕ) → rank o ≤ rank s → rank (last_open o s rows) ≤ rank s
unfolding last_open
last_rank o s [] h = h
last_rank o s (r ∷ rs) h = last_rank s s rs (omega arith)

section_back : (n : ℕ) (s : Section) (rows : List ℕ) (o : Section) (k : Card) (i : ℕ) (rest : List ℕ) → rank o ≤ rank s → Within n rows → accepts s k rows
    → lines_read (taking n o k) i (lines_of (section_text s n rows ++ rest))
    ≡ lines_read (taking n (last_open o s rows) (with_rows k s rows)) (i + length rows) (lines_of rest)
unfolding last_open accepts with_rows
section_back n s [] o k i rest le w h =
    let e : i + 0 ≡ i = omega arith in
    rw e
section_back n s (r ∷ rs) o k i rest le w (v, small, h) =
    let line = label_of s ++ digits_of n r in
    let more = section_text s n rs ++ rest in
    let sum : i + 1 + length rs ≡ i + suc (length rs) = omega arith in
    ap (λ (l : List ℕ). lines_read (taking n o k) i (lines_of l)) (append_assoc (row_line s n r) (section_text s n rs) rest ∙ row_line-append n s r more)
    ∙ read_one (taking n o k) (taking n s (pushed k s r)) i line more (plain-append (label_of s) (digits_of n r) (label_plain s) (digits_plain n r))
    (label_read s (taking n o k) (digits_of n r) ∙ row_added_ok n s o k r le (w 0 (omega arith)) v)
    ∙ section_back n s rs s (pushed k s r) (i + 1) rest (omega arith) (λ j l. w (suc j) (omega arith)) h
    ∙ ap (λ (m : ℕ). lines_read (taking n (last_open s s rs) (with_rows (pushed k s r) s rs)) m (lines_of rest)) sum

-- ---- the line of the length

decimal_plain : (n : ℕ) → plain (decimal_text n) ≡ true
unfolding plain
decimal_plain n =
    elim (ltb n 10) as (λ (b : Bool). plain (cond b ((48 + n) ∷ []) ((48 + n / 10) ∷ (48 + n % 10) ∷ [])) ≡ true) [
      | true ↦ grind (arith, nat_tests)
      | false ↦ grind (arith, nat_tests)
    ]

digit_is_decimal : (d : ℕ) → d < 10 → (leb 48 (48 + d) && leb (48 + d) 57) ≡ true
digit_is_decimal d h = grind (arith, nat_tests)

decimal_back : (n : ℕ) → n < 100 → decimal_of_lem (decimal_text n) ≡ Some n
decimal_back n h =
    elim (cases_lt n 10) [
      | inl l ↦
          let one : 48 + n - 48 ≡ n = omega arith in
          simp (lt-ltb n 10 l, digit_is_decimal n l, one)
      | inr l ↦
          let two : 10 * (48 + n / 10 - 48) + (48 + n % 10 - 48) ≡ n = omega (arith, div-add-mod' n 10) in
          let small : n / 10 < 10 = omega arith in
          let last : n % 10 < 10 = omega arith in
          simp (le-ltb n 10 l, digit_is_decimal (n / 10) small, digit_is_decimal (n % 10) last, two)
    ]

length_back : (n : ℕ) → Length n → line_read unset (codes "length " ++ decimal_text n) ≡ Ok (taking n Group (blank n))
length_back n (lo, hi) =
    ap started (decimal_back n (omega arith)) ∙ simp (le-leb 1 n lo, le-leb n 64 hi)

length_line-append : (n : ℕ) (rest : List ℕ) → length_line n ++ rest ≡ (codes "length " ++ decimal_text n) ++ 10 ∷ rest
length_line-append n rest = simp append_assoc

word_plain : plain (codes "length ") ≡ true
unfolding plain
word_plain = refl

-- ---- the whole text

-- a lawful card comes back from its text
pub text_back : (k : Card) → Lawful k → read_text_lem (text_of k) ≡ Ok k
text_back k l =
    let n = k.len in
    let g = k.group in
    let t = k.transform in
    let c = k.coset in
    let rows = let_in k l in
    let w = l.within in
    let w₂ = within_right n g (t ++ c) w in
    let t_text = section_text Transform n t in
    let c_text = section_text Coset n c in
    let rest = section_text Group n g ++ (t_text ++ c_text) in
    let k₁ : Card = record { len = n; group = g; transform = []; coset = [] } in
    let k₂ : Card = record { len = n; group = g; transform = t; coset = [] } in
    let o₁ = last_open Group Group g in
    let o₂ = last_open o₁ Transform t in
    let o₃ = last_open o₂ Coset c in
    let le₁ : rank o₁ ≤ 1 = omega (arith, last_rank Group Group g (omega arith)) in
    let le₂ : rank o₂ ≤ 2 = omega (arith, last_rank o₁ Transform t le₁) in
    let i₁ = 2 + length g in
    let i₂ = i₁ + length t in
    ap (λ (b : List ℕ). lines_read unset 1 (lines_of b)) (length_line-append n rest)
    ∙ read_one unset (taking n Group (blank n)) 1 (codes "length " ++ decimal_text n) rest (plain-append (codes "length ") (decimal_text n) word_plain (decimal_plain n)) (length_back n l.sized)
    ∙ section_back n Group g Group (blank n) 2 (t_text ++ c_text) (omega arith) (within_left n g (t ++ c) w) rows.group
    ∙ ap (λ (q : Card). lines_read (taking n o₁ q) i₁ (lines_of (t_text ++ c_text))) (with_group n [] g)
    ∙ section_back n Transform t o₁ k₁ i₁ c_text le₁ (within_left n t c w₂) rows.transform
    ∙ ap (λ (q : Card). lines_read (taking n o₂ q) i₂ (lines_of c_text)) (with_transform n g [] t)
    ∙ ap (λ (b : List ℕ). lines_read (taking n o₂ k₂) i₂ (lines_of b)) (sym (append-nil c_text))
    ∙ section_back n Coset c o₂ k₂ i₂ [] le₂ (within_right n t c w₂) rows.coset
    ∙ ap (λ (q : Card). lines_read (taking n o₃ q) (i₂ + length c) (lines_of [])) (with_coset n g t [] c)

-- and from the memory that begins with it
pub text_taken : (k : Card) (old new : List ℕ) (end : ℕ) → Lawful k → end ≡ length (text_of k) → new ≡ text_of k ++ drop (length (text_of k)) old
    → read_text_lem (take end new) ≡ Ok k
text_taken k old new end l e o =
    ap read_text_lem (ap (take end) o ∙ take_at (text_of k) (drop (length (text_of k)) old) end (sym e)) ∙ text_back k l
