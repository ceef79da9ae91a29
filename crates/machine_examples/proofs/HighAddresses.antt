-- The rules of a step hold high in memory: each row is computed.
use mathlib.Core.Path.{refl}
use Rattle.machine.proofs.Opened.{opened}
use Rattle.machine_examples.specs.HighAddresses.{HighAddresses, HighAddressesBySecondEdition}

pub high_addresses : HighAddresses
unfolding opened
high_addresses = record {
  next_wraps = refl;
  pushes_and_pops_wrap = refl;
  pointers_are_loads = refl;
}

pub high_addresses_by_second_edition : HighAddressesBySecondEdition
unfolding opened
high_addresses_by_second_edition = record {
  user_mode_fetches = refl;
  psr_address_is_plain = refl;
}
