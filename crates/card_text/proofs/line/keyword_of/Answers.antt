use Rattle.std.proofs.Common.{rules, codes, sym, ap, arith}
use Rattle.std.proofs.lemmas.Slice.Eq.{text_from_reads}
use Rattle.card_text.specs.Lines.{keyword_of_lem}
use Rattle.card_text.proofs.line.keyword_of.Goals as goal

pub returns-in-LENGTH : goal.returns-in-LENGTH
returns-in-LENGTH c = sym (ap keyword_of_lem (text_from_reads c.args.word.now (codes "length") (omega arith) (search rules)))

pub returns-in-TRANSFORM : goal.returns-in-TRANSFORM
returns-in-TRANSFORM c = sym (ap keyword_of_lem (text_from_reads c.args.word.now (codes "transform") (omega arith) (search rules)))

pub returns-in-GROUP : goal.returns-in-GROUP
returns-in-GROUP c = sym (ap keyword_of_lem (text_from_reads c.args.word.now (codes "group") (omega arith) (search rules)))

pub returns-in-COSET : goal.returns-in-COSET
returns-in-COSET c = sym (ap keyword_of_lem (text_from_reads c.args.word.now (codes "coset") (omega arith) (search rules)))
