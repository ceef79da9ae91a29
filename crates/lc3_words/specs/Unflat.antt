-- The instruction that a flat one is.
use Rattle.std.specs.Prelude.{ℕ, List, [], ◌∷◌, get_or, ℤ, pos, negsuc}
use Rattle.word.specs.declared.Instruction.{Instruction}
use Rattle.word.specs.declared.Instruction.TheVariants.{Br, AddRegister, AddImmediate, Ld, St, Jsr, Jsrr, AndRegister}
use Rattle.word.specs.declared.Instruction.TheVariants.{AndImmediate, Ldr, Str, Rti, Not, Ldi, Sti, Jmp, Reserved, Lea}
use Rattle.word.specs.declared.Instruction.TheVariants.{Trap}
use Rattle.lc3_words.specs.declared.Lc3Instruction.{Lc3Instruction}

-- how many kinds there are
abbrev pub kinds : ℕ
kinds = 19

-- the instruction of each kind, from 0 to 18, made of the operands that it uses: a, b, c, the signed field n, and u,
-- the trap vector or reserved field. The others are ignored
abbrev pub forms : ℕ → ℕ → ℕ → ℤ → ℕ → List Instruction
forms a b c n u =
    Br a n
    ∷ AddRegister a b c
    ∷ AddImmediate a b n
    ∷ Ld a n
    ∷ St a n
    ∷ Jsr n
    ∷ Jsrr a
    ∷ AndRegister a b c
    ∷ AndImmediate a b n
    ∷ Ldr a b n
    ∷ Str a b n
    ∷ Rti
    ∷ Not a b
    ∷ Ldi a n
    ∷ Sti a n
    ∷ Jmp a
    ∷ Reserved u
    ∷ Lea a n
    ∷ Trap u
    ∷ []

-- the form of a kind, which is one of the nineteen
abbrev pub form_of : ℕ → ℕ → ℕ → ℕ → ℤ → ℕ → Instruction
form_of kind a b c n u = get_or (forms a b c n u) kind Rti

-- a value as a trap vector or reserved field; 65535, which is out of range for both, stands for a negative value
abbrev pub unsigned : ℤ → ℕ
unsigned (pos n) = n
unsigned (negsuc n) = 65535

-- the instruction that a flat one of a known kind is, with the value as the host gave it, beyond 16 bits or not
abbrev pub instruction_of : Lc3Instruction → Instruction
instruction_of f = form_of f.kind f.a f.b f.c f.value (unsigned f.value)
