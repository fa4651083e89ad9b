-- A card that is written out is read back the same.
use Rattle.std.proofs.Common.{◌≡◌, ℕ, suc, ◌+◌, ◌*◌, ◌/◌, ◌%◌, ◌^◌, ◌<◌, ◌≤◌, Bool, cond, ◌&&◌, List, [], ◌∷◌, ◌++◌, length, take, Ok, Err, Result, sym, refl, ap, ◌∙◌, ap₂, div-add-mod', arith}
use native.Mathlib.Nat.{div-div-eq-div-mul}
use Rattle.std.proofs.lemmas.List.{append-nil}
use Rattle.std.proofs.lemmas.Bool.{le-leb}
use Rattle.code.specs.declared.refusal.Section.{Section}
use Rattle.code.specs.declared.refusal.Section.TheVariants.{Group, Transform, Coset}
use Rattle.code.specs.declared.refusal.Refusal.{Refusal}
use Rattle.code.specs.declared.refusal.Refusal.TheVariants.{LengthOutOfRange, SectionFull}
use Rattle.card.specs.Cards.{Card, Lawful, verdict, pushed, blank}
use Rattle.card_file.specs.Files.{row_bytes, row_of, rows_bytes, section_bytes, file_of, read_rows_lem, read_section_lem, read_card_lem, none_left, Reading, on_ok}
use Rattle.card_file.proofs.FileBytes.{read_more}
use Rattle.card_file.proofs.LetIn.{accepts, with_rows, with_group, with_transform, with_coset, let_in}

-- ---- eight bytes

pub row_back : (x : ℕ) → x < 2 ^ 64 → row_of (row_bytes x) ≡ x
row_back x h =
    let x1 = x / 256 in
    let e1 = div-add-mod' x 256 in
    let e2 = ap (λ (y : ℕ). y * 256 + x / 256 % 256) (div-div-eq-div-mul x 256 256) in
    omega arith

-- ---- rows and sections

rows_back : (s : Section) (rs : List ℕ) (k : Card) (rest : List ℕ) → accepts s k rs
    → read_rows_lem s (length rs) k (rows_bytes rs ++ rest) ≡ Ok (record { card = with_rows k s rs; left = rest })
unfolding accepts with_rows
rows_back s [] k rest h = refl
rows_back s (r ∷ rs) k rest (v, small, h) =
    let is = row_back r small in
    let bs = row_bytes r ++ (rows_bytes rs ++ rest) in
    let v' : Ok tt ≡ verdict k s (row_of (take 8 bs)) = v ∙ ap (verdict k s) (sym is) in
    read_more s (suc (length rs)) k bs tt (omega arith) (omega arith) v'
    ∙ ap₂ (λ (n x : ℕ). read_rows_lem s n (pushed k s x) (rows_bytes rs ++ rest)) (omega arith) is
    ∙ rows_back s rs (pushed k s r) rest h

section_back : (s : Section) (rs : List ℕ) (k : Card) (rest : List ℕ) → length rs ≤ 8 → accepts s k rs
    → read_section_lem s k (section_bytes rs ++ rest) ≡ Ok (record { card = with_rows k s rs; left = rest })
section_back s rs k rest few h =
    ap (λ (b : Bool). cond b (read_rows_lem s (length rs) k (rows_bytes rs ++ rest)) (Err (SectionFull s))) (le-leb (length rs) 8 few)
    ∙ rows_back s rs k rest h

file_back : (k : Card) → 1 ≤ k.len → k.len ≤ 64 → length k.group ≤ 8 → length k.transform ≤ 8 → length k.coset ≤ 8
    → accepts Group (blank k.len) k.group
    → accepts Transform (record { len = k.len; group = k.group; transform = []; coset = [] }) k.transform
    → accepts Coset (record { len = k.len; group = k.group; transform = k.transform; coset = [] }) k.coset
    → read_card_lem (file_of k) ≡ Ok k
file_back k lo hi fg ft fc ag at ac =
    let n = k.len in
    let rest = section_bytes k.transform ++ section_bytes k.coset in
    let third : Reading → Result Reading Refusal = λ q. read_section_lem Coset q.card q.left in
    let second : Reading → Result Reading Refusal = λ q. on_ok (read_section_lem Transform q.card q.left) third in
    let last : Card = record { len = n; group = k.group; transform = k.transform; coset = [] } in
    ap₂ (λ (x y : Bool). on_ok (cond (x && y) (on_ok (read_section_lem Group (blank n) (section_bytes k.group ++ rest)) second) (Err LengthOutOfRange)) none_left) (le-leb 1 n lo) (le-leb n 64 hi)
    ∙ ap (λ (q : Result Reading Refusal). on_ok (on_ok q second) none_left) (section_back Group k.group (blank n) rest fg ag)
    ∙ ap (λ (c : Card). on_ok (on_ok (read_section_lem Transform c rest) third) none_left) (with_group n [] k.group)
    ∙ ap (λ (q : Result Reading Refusal). on_ok (on_ok q third) none_left) (section_back Transform k.transform (record { len = n; group = k.group; transform = []; coset = [] }) (section_bytes k.coset) ft at)
    ∙ ap (λ (c : Card). on_ok (read_section_lem Coset c (section_bytes k.coset)) none_left) (with_transform n k.group [] k.transform)
    ∙ ap (λ (l : List ℕ). on_ok (read_section_lem Coset last l) none_left) (sym (append-nil (section_bytes k.coset)))
    ∙ ap (λ (q : Result Reading Refusal). on_ok q none_left) (section_back Coset k.coset last [] fc ac)
    ∙ ap (λ (c : Card). Ok c) (with_coset n k.group k.transform [] k.coset)

-- a lawful card comes back from its file
pub read_back : (k : Card) → Lawful k → read_card_lem (file_of k) ≡ Ok k
read_back k l =
    let (lo, hi) = l.sized in
    let rows = let_in k l in
    file_back k lo hi (l.few Group) (l.few Transform) (l.few Coset) rows.group rows.transform rows.coset
