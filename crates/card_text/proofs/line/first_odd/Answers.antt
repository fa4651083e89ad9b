use Rattle.std.proofs.Common.{not, sym, ◌∙◌, rules, tests}
use Rattle.std.proofs.lemmas.Iterator.{YieldsList-from_slice}
use Rattle.std.proofs.lemmas.Iterator.Adapters.{position_from-zero}
use Rattle.std.proofs.lemmas.Iterator.Search.{position_from_yields_List}
use Rattle.card_text.specs.Lines.{is_binary_lem}
use Rattle.card_text.proofs.Steps.{first_odd-position}
use Rattle.card_text.proofs.line.first_odd.Goals as goal

pub returns : goal.returns
returns c =
    let ds = c.args.digits.now in
    position_from_yields_List (λ d. not (is_binary_lem d)) _ _ c.position.result c.position.ensures.ran (YieldsList-from_slice ds cc) (λ x b q k. search (rules, tests))
    ∙ position_from-zero (λ d. not (is_binary_lem d)) ds ∙ sym (first_odd-position ds 0)
