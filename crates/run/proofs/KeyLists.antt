-- Key lists that are refused: by the laws of the times and of acceptance.
use Rattle.run.specs.KeyLists.{KeyLists}
use Rattle.run.proofs.KeyTimes.{first_offence_is_answered}
use Rattle.run.proofs.Acceptance.{accepted_as_before}

pub key_lists : KeyLists
key_lists = record { first_offence_is_answered = first_offence_is_answered; accepted_as_before = accepted_as_before }
