-- `next_step::lists::is_device` meets its contract: seven addresses by both editions, xFFFC by one of them.
use mathlib.Core.Path.{◌≡◌, refl}
use mathlib.Core.Bool.{Bool, true, false, not}
use mathlib.Core.Logic.{⊎_elim, inl, inr}
use Rattle.machine.specs.Edition.{edition_of, has_psr_address}
use Rattle.machine.specs.Devices.{is_device_by}
use Rattle.machine.proofs.DeviceLaws.{no_device, psr_is_device}
use Rattle.next_step.proofs.lists.is_device.Goals as goal

by-edition : (second : Bool) → not second ≡ has_psr_address (edition_of second)
by-edition true = refl
by-edition false = refl

pub returns-in-65024 : goal.returns-in-65024
unfolding is_device_by
returns-in-65024 c =
    ⊎_elim (λ h. rw h refl)
    (⊎_elim (λ h. rw h refl)
    (⊎_elim (λ h. rw h refl)
    (⊎_elim (λ h. rw h refl)
    (⊎_elim (λ h. rw h refl)
    (⊎_elim (λ h. rw h refl) (λ h. rw h refl))))))
    c.in-65024.is

pub returns-in-65532 : goal.returns-in-65532
returns-in-65532 c =
    let second = c.args.second in
    rw (c.in-65532.is, psr_is_device (edition_of second)) (by-edition second)

pub returns-in_default : goal.returns-in_default
returns-in_default c =
    let r = c.in_default.in_default-own.rest.0.1 in
    rw (no_device (edition_of c.args.second) c.args.a (λ h. r (inl h)) (λ h. r (inr (inl h)))
    (λ h. r (inr (inr (inl h)))) (λ h. r (inr (inr (inr (inl h))))) (λ h. r (inr (inr (inr (inr (inl h))))))
    (λ h. r (inr (inr (inr (inr (inr (inl h))))))) c.in_default.in_default-own.rest.1
    (λ h. r (inr (inr (inr (inr (inr (inr h))))))))
    refl
