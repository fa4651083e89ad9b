-- Bytes written one piece after the other.
use Rattle.std.proofs.Common.{◌≡◌, ℕ, zero, suc, ◌+◌, ◌-◌, ◌*◌, ◌/◌, ◌%◌, ◌<◌, ◌≤◌, List, [], ◌∷◌, ◌++◌, length, get_or, take, drop, set, sym, refl, subst, ap, ◌∙◌, ap₂, append_assoc, add-one, arith, length-append}
use Rattle.std.proofs.lemmas.List.{append-nil, at_drop_more, drop_all, take_at, drop_at, drop-drop, length-take-le, set_split, take-append-drop}
use Rattle.code.specs.declared.refusal.Section.{Section}
use Rattle.card_text.specs.declared.write.TextWriter.{TextWriter}
use Rattle.card_text.specs.Writers.{HasRoom, Wrote}
use Rattle.card_text.specs.Texts.{digits_of, label_of, over, row_line, section_text}

-- ---- pieces

pub over-over : (at : ℕ) (xs ys old : List ℕ) → at + length xs ≤ length old → over (at + length xs) ys (over at xs old) ≡ over at (xs ++ ys) old
over-over at xs ys old h =
    let A = take at old in
    let p = at + length xs in
    let out = over at xs old in
    let l_a : length (A ++ xs) ≡ p = length-append A xs ∙ ap (λ (k : ℕ). k + length xs) (length-take-le at old (omega arith)) in
    let e : out ≡ (A ++ xs) ++ drop p old = sym (append_assoc A xs (drop p old)) in
    let sum : p + length ys ≡ at + length (xs ++ ys) = omega (arith, length-append xs ys) in
    let front : take p out ≡ A ++ xs = ap (take p) e ∙ take_at (A ++ xs) (drop p old) p l_a in
    let back : drop (p + length ys) out ≡ drop (at + length (xs ++ ys)) old =
    sym (drop-drop (length ys) p out) ∙ ap (drop (length ys)) (ap (drop p) e ∙ drop_at (A ++ xs) (drop p old) p l_a) ∙ drop-drop (length ys) p old ∙ ap (λ (n : ℕ). drop n old) sum in
    ap₂ (λ (x y : List ℕ). x ++ (ys ++ y)) front back
    ∙ append_assoc A xs (ys ++ drop (at + length (xs ++ ys)) old)
    ∙ ap (λ (l : List ℕ). A ++ l) (sym (append_assoc xs ys (drop (at + length (xs ++ ys)) old)))

pub over_none : (at : ℕ) (old : List ℕ) → over at [] old ≡ old
over_none at old =
    let z : at + 0 ≡ at = omega arith in
    ap (λ (m : ℕ). take at old ++ drop m old) z ∙ take-append-drop at old

pub over_all : (bytes old : List ℕ) → length bytes ≡ length old → over 0 bytes old ≡ bytes
over_all bytes old e = ap (λ (l : List ℕ). bytes ++ l) (drop_all (0 + length bytes) old (omega (arith, e))) ∙ append-nil bytes

pub over-set : (at b : ℕ) (old : List ℕ) → at < length old → set old at b ≡ over at (b ∷ []) old
over-set at b old h = set_split old at b h ∙ ap (λ (m : ℕ). take at old ++ b ∷ drop m old) (sym (add-one at))

-- ---- the writer

pub wrote_then : {a b : List ℕ} {t u v : TextWriter} → Wrote a t u → Wrote b u v → Wrote (a ++ b) t v
wrote_then {a = a} {b = b} {t = t} w x = record {
  named = x.named ∙ w.named;
  room = omega (arith, w.room, w.end, w.long, x.room, length-append a b);
  long = x.long ∙ w.long;
  end = omega (arith, w.end, x.end, length-append a b);
  memory = x.memory ∙ ap₂ (λ (k : ℕ) (o : List ℕ). over k b o) w.end w.memory ∙ over-over t.end a b t.memory.now w.room;
}

pub wrote_same : {a b : List ℕ} {t u : TextWriter} → a ≡ b → Wrote a t u → Wrote b t u
wrote_same {t = t} {u = u} e w = subst (λ (bs : List ℕ). Wrote bs t u) e w

pub wrote_none : (t : TextWriter) → HasRoom [] t → Wrote [] t t
wrote_none t h = record { named = refl; room = h; long = refl; end = omega arith; memory = sym (over_none t.end t.memory.now) }

-- ---- digits

pub digits_length : (n row : ℕ) → length (digits_of n row) ≡ n
digits_length zero row = refl
digits_length (suc n) row = ap suc (digits_length n (row / 2))

-- one digit more, of n, where p are written for the memory to be `done`
pub digits_step : (p n rest : ℕ) (out done : List ℕ) → p < n → n ≤ length out → over p (digits_of (n - p) rest) out ≡ done
    → over (p + 1) (digits_of (n - (p + 1)) (rest / 2)) (set out p (48 + rest % 2)) ≡ done
digits_step p n rest out done some room h =
    let b = 48 + rest % 2 in
    let ds = digits_of (n - (p + 1)) (rest / 2) in
    let less : n - p ≡ suc (n - (p + 1)) = omega arith in
    ap (over (p + 1) ds) (over-set p b out (omega arith)) ∙ over-over p (b ∷ []) ds out (omega arith) ∙ rw less at h

-- ---- rows

pub length-row_line : (s : Section) (n row : ℕ) → length (row_line s n row) ≡ length (label_of s) + n + 1
length-row_line s n row =
    length-append (label_of s) (digits_of n row ++ 10 ∷ []) ∙ omega (arith, length-append (digits_of n row) (10 ∷ []), digits_length n row)

-- a section's word is its label without the space
pub label_size : (word : List ℕ) (s : Section) → word ++ 32 ∷ [] ≡ label_of s → length word + 1 ≡ length (label_of s)
label_size word s is = sym (length-append word (32 ∷ [])) ∙ ap length is

pub rows_length : (s : Section) (n : ℕ) (rows : List ℕ) → length (section_text s n rows) ≡ length rows * (length (label_of s) + n + 1)
rows_length s n [] = omega arith
rows_length s n (r ∷ rs) =
    length-append (row_line s n r) (section_text s n rs) ∙ omega (arith, length-row_line s n r, rows_length s n rs)

-- where the lines of some rows are left to write, and writing them writes all
pub record RowsLeft (s : Section) (n : ℕ) (rows all : List ℕ) (t u : TextWriter) : Type 0 where
  pub room : HasRoom (section_text s n rows) u
  pub then : (v : TextWriter) → Wrote (section_text s n rows) u v → Wrote (section_text s n all) t v

rows_split : (s : Section) (n : ℕ) (rows : List ℕ) (i : ℕ) → i < length rows
    → row_line s n (get_or rows i 0) ++ section_text s n (drop (i + 1) rows) ≡ section_text s n (drop i rows)
rows_split s n rows i h = sym (at_drop_more (λ (rs : List ℕ). section_text s n rs) rows i 0 h)

pub row_room : (s : Section) (n : ℕ) (rows all : List ℕ) (i : ℕ) (t u : TextWriter) → i < length rows → RowsLeft s n (drop i rows) all t u
    → HasRoom (row_line s n (get_or rows i 0)) u
row_room s n rows all i t u h l =
    let line = row_line s n (get_or rows i 0) in
    omega (arith, l.room, ap length (rows_split s n rows i h), length-append line (section_text s n (drop (i + 1) rows)))

pub rows_step : (s : Section) (n : ℕ) (rows all : List ℕ) (i : ℕ) (t u v : TextWriter) → i < length rows → RowsLeft s n (drop i rows) all t u
    → Wrote (row_line s n (get_or rows i 0)) u v → RowsLeft s n (drop (i + 1) rows) all t v
rows_step s n rows all i t u v h l w =
    let line = row_line s n (get_or rows i 0) in
    let rest = section_text s n (drop (i + 1) rows) in
    let e = rows_split s n rows i h in
    record {
      room = omega (arith, l.room, w.end, w.long, ap length e, length-append line rest);
      then = λ x wx. l.then x (wrote_same e (wrote_then w wx));
    }

pub rows_done : (s : Section) (n : ℕ) (rows all : List ℕ) (t u : TextWriter) → rows ≡ [] → RowsLeft s n rows all t u → Wrote (section_text s n all) t u
rows_done s n rows all t u none l =
    let l' = subst (λ (rs : List ℕ). RowsLeft s n rs all t u) none l in
    l'.then u (wrote_none u l'.room)
