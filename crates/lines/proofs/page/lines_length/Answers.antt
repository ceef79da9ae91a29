-- `lines::page::lines_length` meets its contract: the lengths of the lines, each of at most 17 bytes, are added.
use Rattle.std.proofs.Common.{length, arith, rules, ◌∙◌, ◌<◌}
use Rattle.std.specs.List.{sum_by}
use Rattle.std.proofs.lemmas.Iterator.{YieldsList-from_slice, YieldsList-from_map}
use Rattle.std.proofs.lemmas.Iterator.Consumers.{sum_by_from_yields_List, fits_by_from_yields_list}
use Rattle.line.specs.Line.{line_of}
use Rattle.lines.proofs.PageLaws.{lengths_added, short_lines}
use Rattle.lines.proofs.page.lines_length.Goals as goal

pub sum-requires-clause-fits : goal.sum-requires-clause-fits
sum-requires-clause-fits c =
    let words = c.args.words.now in
    let short : sum_by (λ w. length (line_of w)) words < 18446744073709551616 =
    omega (arith, c.requires, lengths_added words, short_lines words (λ i. (c.type_inv.words i).fits)) in
    fits_by_from_yields_list _ _ c.map.result _
    (YieldsList-from_map _ (λ w. length (line_of w)) (YieldsList-from_slice words cc) c.map.ensures.closure
    (λ x r q k. search rules)) short

pub returns : goal.returns
returns c =
    let words = c.args.words.now in
    sum_by_from_yields_List _ _ c.map.result _ c.sum.ensures.ran
    (YieldsList-from_map _ (λ w. length (line_of w)) (YieldsList-from_slice words cc) c.map.ensures.closure
    (λ x r q k. search rules)) ∙ lengths_added words
