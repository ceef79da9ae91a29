-- `lc3_run_long` meets its contract, by that of `run`, whose answer `Lc3Answer::from` puts into numbers.
use mathlib.Core.Path.{ap, ◌∙◌}
use borrow.Author.Rules.{rules}
use Rattle.answers.specs.Answer.{answer_of}
use Rattle.lc3_long.proofs.lc3_run_long.Goals as goal

pub returns : goal.returns
returns c =
    let went = c.run in
    c.from.ensures went.new.memory went.new.output ∙ ap answer_of went.ensures.output_after_2
