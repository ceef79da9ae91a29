-- When a call is accepted: from what is known of an accepted call, with the defined bits of PSR written out.
use Prim.Native.Nat.{ℕ, ◌+◌, ◌*◌, ◌/◌, ◌%◌, ◌<◌}
use mathlib.Core.Path.{◌≡◌, refl, ◌∙◌}
use mathlib.Core.List.{List, [], ◌∷◌, ◌++◌}
use native.Mathlib.Omega.{arith}
use Rattle.machine.specs.Psr.{defined_psr}
use Rattle.machine.specs.Keys.{ready_after, last_key}
use Rattle.run.specs.Run.{Start}
use Rattle.run.specs.Refusals.{admission_of}
use Rattle.run.proofs.Acceptance.{Acceptable, accepted_is_acceptable, acceptable_is_accepted}
use Rattle.statements.specs.Accepted.{Handed, AcceptedExactly, KeysArrive, CallsAndKeys}

-- A number has one quotient, by 8, by 256 and by 2,048.
by_8 : (a b c d : ℕ) → 8 * a + b ≡ 8 * c + d → b < 8 → d < 8 → a ≡ c
by_8 a b c d h l k = omega arith

by_256 : (a b c d : ℕ) → 256 * a + b ≡ 256 * c + d → b < 256 → d < 256 → a ≡ c
by_256 a b c d h l k = omega arith

by_2048 : (a b c d : ℕ) → 2048 * a + b ≡ 2048 * c + d → b < 2048 → d < 2048 → a ≡ c
by_2048 a b c d h l k = omega arith

bits_defined : (psr : ℕ) → psr % 0x8000 / 0x0800 ≡ 0 → psr % 0x0100 / 8 ≡ 0 → defined_psr psr ≡ psr
unfolding defined_psr
bits_defined psr h k =
    let r : psr % 0x8000 < 2048 = omega arith in
    let low : psr % 256 < 8 = omega arith in
    let z : psr / 256 / 8 ≡ 16 * (psr / 0x8000) =
    by_2048 (psr / 256 / 8) (256 * (psr / 256 % 8) + psr % 256) (16 * (psr / 0x8000)) (psr % 0x8000)
    (omega arith) (omega (arith, low)) r in
    let y : psr / 8 ≡ 32 * (psr / 256) = by_8 (psr / 8) (psr % 8) (32 * (psr / 256)) (psr % 256) (omega arith)
    (omega arith) low in
    omega (arith, r, low, z, y)

defined_above : (psr : ℕ) → defined_psr psr ≡ psr → psr % 0x8000 / 0x0800 ≡ 0
unfolding defined_psr
defined_above psr h =
    let r : psr % 0x8000 < 2048 = omega (arith, h) in
    omega (arith, r)

defined_between : (psr : ℕ) → defined_psr psr ≡ psr → psr % 0x0100 / 8 ≡ 0
unfolding defined_psr
defined_between psr h =
    let y : psr / 256 ≡ 128 * (psr / 0x8000) + psr / 256 % 8 =
    by_256 (psr / 256) (psr % 256) (128 * (psr / 0x8000) + psr / 256 % 8) (psr % 8)
    (omega (arith, h)) (omega arith) (omega arith) in
    let low : psr % 256 < 8 = omega (arith, h, y) in
    omega (arith, low)

accepted_exactly : (s : Start) (n : ℕ) → AcceptedExactly s n
accepted_exactly s n = record {
  accepted = λ h.
      acceptable_is_accepted s n
      (record {
        size = h.size;
        defined = record {
          psr = bits_defined s.machine.psr h.psr_above h.psr_between;
          devices = h.devices;
        };
        clock = h.clock;
        steps = h.steps;
        equal = h.lengths;
        order = h.in_order;
      });
  handed = λ h.
      let a : Acceptable s n = accepted_is_acceptable s n h in
      record {
        size = a.size;
        psr_above = defined_above s.machine.psr a.defined.psr;
        psr_between = defined_between s.machine.psr a.defined.psr;
        devices = a.defined.devices;
        steps = a.steps;
        clock = a.clock;
        lengths = a.equal;
        in_order = a.order;
      };
}

last_key_stays : (keys : List ℕ) (b kbdr : ℕ) → last_key (keys ++ b ∷ []) kbdr ≡ b
unfolding last_key
last_key_stays [] b kbdr = refl
last_key_stays (c ∷ keys) b kbdr = last_key_stays keys b c

ready_stays : (keys : List ℕ) (kbsr : ℕ) → ready_after keys (kbsr % 0x8000 + 0x8000) ≡ kbsr % 0x8000 + 0x8000
unfolding ready_after
ready_stays [] kbsr = refl
ready_stays (b ∷ keys) kbsr =
    let z : (kbsr % 0x8000 + 0x8000) % 0x8000 + 0x8000 ≡ kbsr % 0x8000 + 0x8000 = omega arith in
    rw z (ready_stays keys kbsr)

pub calls_and_keys : CallsAndKeys
unfolding ready_after last_key
calls_and_keys = record {
  accepted_exactly = accepted_exactly;
  keys_arrive = λ keys b. record {
    last_stays = last_key_stays keys b;
    ready_set = ready_stays keys;
    none_leaves_it = λ kbsr kbdr. (refl, refl);
  };
}
