-- The first bad sample of a list.
use Rattle.std.proofs.Common.{◌≡◌, ℕ, zero, suc, ◌+◌, ◌<◌, Bool, true, false, cond, eqb, ◌⊎◌, List, [], ◌∷◌, length, get_or, drop, Some, None, Ok, Err, Option, sym, refl, ap, ◌∙◌, subst, inl, inr, arith, ne_eqb}
use lib.Ieee.{Float}
use Rattle.std.proofs.lemmas.List.{at_drop_more}
use Rattle.code.specs.declared.refusal.Refusal.{Refusal}
use Rattle.code.specs.declared.refusal.Refusal.TheVariants.{BitNotBinary, LevelOutOfRange}
use Rattle.sample.specs.declared.Sample.{Sample}
use Rattle.sample.specs.declared.Sample.TheVariants.{Bit, Level, Pair, Dropout}
use Rattle.sample.specs.Levels.{in_range}
use Rattle.sample.specs.Samples.{answer, level_fault, fault, first_fault, or_else, Good, Bad, AllGood, FirstBad}

pub first_none : (xs : List Sample) (i : ℕ) (d : Sample) → i < length xs → fault i (get_or xs i d) ≡ None → first_fault i (drop i xs) ≡ first_fault (i + 1) (drop (i + 1) xs)
unfolding first_fault
first_none xs i d h e = at_drop_more (first_fault i) xs i d h ∙ ap (λ o. or_else o (first_fault (i + 1) (drop (i + 1) xs))) e

pub first_some : (xs : List Sample) (i : ℕ) (d : Sample) (r : Refusal) → i < length xs → fault i (get_or xs i d) ≡ Some r → first_fault i (drop i xs) ≡ Some r
unfolding first_fault
first_some xs i d r h e = at_drop_more (first_fault i) xs i d h ∙ ap (λ o. or_else o (first_fault (i + 1) (drop (i + 1) xs))) e

pub answer_err : {B : Type 0} (o : Option Refusal) (v : B) (e : Refusal) → Err e ≡ answer o v → o ≡ Some e
answer_err None v e q = cc
answer_err (Some d) v e q = cc

pub answer_ok : {B : Type 0} (o : Option Refusal) (v w : B) → Ok w ≡ answer o v → o ≡ None
answer_ok None v w q = refl
answer_ok (Some d) v w q = cc

level_good : (i : ℕ) (v : Float) → in_range v ≡ true → level_fault i v ≡ None
level_good i v g = ap (λ t. cond t None (Some (LevelOutOfRange i))) g

level_bad : (i : ℕ) (v : Float) → in_range v ≡ false → level_fault i v ≡ Some (LevelOutOfRange i)
level_bad i v g = ap (λ t. cond t None (Some (LevelOutOfRange i))) g

pub good_none : (i : ℕ) (x : Sample) → Good x → fault i x ≡ None
good_none i (Bit b) (inl e) = ap (λ c. fault i (Bit c)) e
good_none i (Bit b) (inr e) = ap (λ c. fault i (Bit c)) e
good_none i (Level v) g = level_good i v g
good_none i (Pair p) g = ap (λ o. or_else o (level_fault i p.second)) (level_good i p.main g.0) ∙ level_good i p.second g.1
good_none i Dropout g = refl

pair_bad : (i : ℕ) (a b : Bool) → (a ≡ false) ⊎ (b ≡ false) → or_else (cond a None (Some (LevelOutOfRange i))) (cond b None (Some (LevelOutOfRange i))) ≡ Some (LevelOutOfRange i)
pair_bad i true true (inl e) = cc
pair_bad i true true (inr e) = cc
pair_bad i true false g = refl
pair_bad i false b g = refl

pub bad_some : (i : ℕ) (x : Sample) (e : Refusal) → Bad i x e → fault i x ≡ Some e
bad_some i (Bit b) e g =
    let zero' : b ≡ 0 → ⊥ = λ h. omega (arith, g.0) in
    let one' : b ≡ 1 → ⊥ = λ h. omega (arith, g.0) in
    ap (λ t. cond t None (cond (eqb b 1) None (Some (BitNotBinary i)))) (ne_eqb b 0 zero')
    ∙ ap (λ t. cond t None (Some (BitNotBinary i))) (ne_eqb b 1 one') ∙ ap Some (sym g.1)
bad_some i (Level v) e g = level_bad i v g.0 ∙ ap Some (sym g.1)
bad_some i (Pair p) e g = pair_bad i (in_range p.main) (in_range p.second) g.0 ∙ ap Some (sym g.1)
bad_some i Dropout e g = absurd g

good_from : (i : ℕ) (xs : List Sample) → AllGood xs → first_fault i xs ≡ None
unfolding first_fault
good_from i [] g = refl
good_from i (x ∷ xs) g =
    ap (λ o. or_else o (first_fault (i + 1) xs)) (good_none i x (g 0 x (omega arith))) ∙ good_from (i + 1) xs (λ k y h. g (suc k) y (omega arith))

bad_from : (i p : ℕ) (xs : List Sample) (e : Refusal) → p < length xs → ((k : ℕ) (x : Sample) → k < p → Good (get_or xs k x)) → ((x : Sample) → Bad (i + p) (get_or xs p x) e) → first_fault i xs ≡ Some e
unfolding first_fault
bad_from i p [] e on g b = absurd (omega arith)
bad_from i zero (x ∷ xs) e on g b =
    let same : i + 0 ≡ i = omega arith in
    ap (λ o. or_else o (first_fault (i + 1) xs)) (bad_some i x e (subst (λ j. Bad j x e) same (b x)))
bad_from i (suc p) (x ∷ xs) e on g b =
    let same : i + suc p ≡ i + 1 + p = omega arith in
    ap (λ o. or_else o (first_fault (i + 1) xs)) (good_none i x (g 0 x (omega arith)))
    ∙ bad_from (i + 1) p xs e (omega arith) (λ k y h. g (suc k) y (omega arith)) (λ y. subst (λ j. Bad j (get_or xs p y) e) same (b y))

-- the relations decide the refusal
pub first_good : (xs : List Sample) → AllGood xs → first_fault 0 xs ≡ None
first_good xs g = good_from 0 xs g

pub first_bad : (xs : List Sample) (e : Refusal) → FirstBad xs e → first_fault 0 xs ≡ Some e
first_bad xs e f =
    let same : f.place ≡ 0 + f.place = omega arith in
    bad_from 0 f.place xs e f.on f.before (λ x. subst (λ j. Bad j (get_or xs f.place x) e) same (f.bad x))
