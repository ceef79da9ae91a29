-- `logger::stepping::stop_at_room` meets its contract: by the cases of the ending, of `more` and of bit 15 of MCR.
use borrow.Author.Rules.{rules}
use borrow.Author.Tests.{lt-ltb, le-ltb}
use Rattle.logger.specs.Stepping.{stop_at_room}
use Rattle.logger.proofs.stepping.stop_at_room.Goals as goal

pub returns-then-mcr-lt32768 : goal.returns-then-mcr-lt32768
unfolding stop_at_room
returns-then-mcr-lt32768 c =
    let if1 = c.if-more in
    rw (c.in-Done.is, if1.true, lt-ltb _ _ c.if-mcr-lt32768.true)

pub returns-then-more : goal.returns-then-more
unfolding stop_at_room
returns-then-more c =
    let if1 = c.if-more in
    rw (c.in-Done.is, if1.true, le-ltb _ _ c.if-mcr-lt32768.false)

pub returns-else-more : goal.returns-else-more
unfolding stop_at_room
returns-else-more c = rw (c.in-Done.is, c.if-more.false)

pub returns-in-Halted : goal.returns-in-Halted
unfolding stop_at_room
returns-in-Halted c = rw c.in-Halted.is

pub returns-in-OutputFull : goal.returns-in-OutputFull
unfolding stop_at_room
returns-in-OutputFull c = rw c.in-OutputFull.is

pub returns-in-Refused : goal.returns-in-Refused
unfolding stop_at_room
returns-in-Refused c = rw c.in-Refused.is
