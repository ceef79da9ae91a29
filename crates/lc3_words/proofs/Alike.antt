-- An instruction with a clamped value is written as the one with the value itself: where they differ, both are out of
-- range, and then the word plays no part.
use Prim.Native.Nat.{ℕ, ◌≤◌, ◌<◌}
use native.Mathlib.Omega.{arith}
use mathlib.Core.Path.{◌≡◌, refl, sym, ap, ◌∙◌}
use mathlib.Core.Bool.{Bool, true, false, cond}
use lib.Dec.{ltb}
use lib.IntN.{ℤ, pos, negsuc}
use lib.Signed.{mag}
use borrow.Author.Tests.{ltb-true, ltb-false, le-ltb}
use Rattle.std.specs.Prelude.{Err}
use Rattle.word.specs.Field.{within}
use Rattle.word.specs.Writing.{word_of, registers_in_range, mask_in_range, answer, write_of}
use Rattle.word.specs.declared.Instruction.{Instruction}
use Rattle.word.specs.declared.Instruction.TheVariants.{Br, AddImmediate, Ld, St, Jsr, AndImmediate, Ldr, Str, Ldi}
use Rattle.word.specs.declared.Instruction.TheVariants.{Sti, Reserved, Lea, Trap}
use Rattle.word.specs.declared.WriteRefusal.TheVariants.{Field}
use Rattle.word.proofs.SignedFields.{size_not_within}
use Rattle.word.proofs.Opcodes.{Below, each, ◌&◌}
use Rattle.lc3_words.specs.Unflat.{unsigned, kinds, form_of}
use Rattle.lc3_words.specs.Clamping.{clamp_signed, clamp_unsigned}
use Rattle.lc3_words.proofs.Values.{clamped_beyond, clamped_within}

-- a field out of range is refused, whatever the word would be
no_word : (r m : Bool) (v w : ℕ) → answer r false m v ≡ answer r false m w
no_word true m v w = refl
no_word false m v w = refl

-- an instruction I n with a signed field of half h
signed_alike : (I : ℤ → Instruction) (h : ℕ)
    → ((n : ℤ) → write_of (I n)
    ≡ answer (registers_in_range (I (pos 0))) (within h n) (mask_in_range (I (pos 0))) (word_of (I n)))
    → h ≤ 32767 → (v : ℤ) → write_of (I (clamp_signed v)) ≡ write_of (I v)
signed_alike I h e p v = go (ltb (mag v) 32768) refl
  where
    out : (n : ℤ) → h ≤ mag n → write_of (I n)
        ≡ answer (registers_in_range (I (pos 0))) false (mask_in_range (I (pos 0))) 0
    out n q =
        e n
        ∙ (ap (λ (t : Bool). answer (registers_in_range (I (pos 0))) t (mask_in_range (I (pos 0))) (word_of (I n)))
        (size_not_within h n q)
        ∙ no_word (registers_in_range (I (pos 0))) (mask_in_range (I (pos 0))) (word_of (I n)) 0)

    go : (t : Bool) → ltb (mag v) 32768 ≡ t → write_of (I (clamp_signed v)) ≡ write_of (I v)
    go true t = ap (λ (z : ℤ). write_of (I z)) (clamped_within v (ltb-true (mag v) 32768 t))
    go false t =
        let q = ltb-false (mag v) 32768 t in
        ap (λ (z : ℤ). write_of (I z)) (clamped_beyond v q) ∙ (out (pos 32767) p ∙ sym (out v (omega arith)))

-- an instruction I n with a number below the limit
unsigned_alike : (I : ℕ → Instruction) (limit : ℕ)
    → ((n : ℕ) → write_of (I n) ≡ answer true (ltb n limit) true (word_of (I n)))
    → limit ≤ 65535 → (v : ℤ) → write_of (I (clamp_unsigned v)) ≡ write_of (I (unsigned v))
unsigned_alike I limit e p (negsuc n) = refl
unsigned_alike I limit e p (pos n) = go (ltb n 65536) refl
  where
    out : (n : ℕ) → limit ≤ n → write_of (I n) ≡ Err Field
    out n q = e n ∙ ap (λ (t : Bool). answer true t true (word_of (I n))) (le-ltb n limit q)

    go : (t : Bool) → ltb n 65536 ≡ t → write_of (I (cond t n 65535)) ≡ write_of (I n)
    go true t = refl
    go false t = out 65535 p ∙ sym (out n (omega (arith, ltb-false n 65536 t)))

-- for every known kind
pub written_alike : (k a b c : ℕ) (v : ℤ) → k < kinds
    → write_of (form_of k a b c (clamp_signed v) (clamp_unsigned v)) ≡ write_of (form_of k a b c v (unsigned v))
unfolding write_of Below
written_alike k a b c v =
    each (λ k. write_of (form_of k a b c (clamp_signed v) (clamp_unsigned v))
    ≡ write_of (form_of k a b c v (unsigned v)))
    kinds
    (signed_alike (Br a) 256 (λ n. refl) (omega arith) v
    & refl
    & signed_alike (AddImmediate a b) 16 (λ n. refl) (omega arith) v
    & signed_alike (Ld a) 256 (λ n. refl) (omega arith) v
    & signed_alike (St a) 256 (λ n. refl) (omega arith) v
    & signed_alike Jsr 1024 (λ n. refl) (omega arith) v
    & refl
    & refl
    & signed_alike (AndImmediate a b) 16 (λ n. refl) (omega arith) v
    & signed_alike (Ldr a b) 32 (λ n. refl) (omega arith) v
    & signed_alike (Str a b) 32 (λ n. refl) (omega arith) v
    & refl
    & refl
    & signed_alike (Ldi a) 256 (λ n. refl) (omega arith) v
    & signed_alike (Sti a) 256 (λ n. refl) (omega arith) v
    & refl
    & unsigned_alike Reserved 4096 (λ n. refl) (omega arith) v
    & signed_alike (Lea a) 256 (λ n. refl) (omega arith) v
    & unsigned_alike Trap 256 (λ n. refl) (omega arith) v
    & tt)
    k
