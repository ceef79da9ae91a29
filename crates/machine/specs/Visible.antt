-- What User mode sees, and what is out of its reach. Memory has three parts: the words below x3000, the words x3000 to
-- xFDFF, and the words from xFE00 on.
use Rattle.std.specs.Prelude.{ℕ, ◌≡◌, List, take, drop}
use Rattle.machine.specs.declared.Machine.{Machine}

-- The words x0000 to x2FFF.
unfoldable pub words_below : List ℕ → List ℕ
words_below mem = take 0x3000 mem

-- The words x3000 to xFDFF, xCE00 of them.
unfoldable pub user_words : List ℕ → List ℕ
user_words mem = take 0xCE00 (drop 0x3000 mem)

-- The words xFE00 to xFFFF.
unfoldable pub words_above : List ℕ → List ℕ
words_above mem = drop 0xFE00 mem

-- "Equal R0 to R7, PC, PSR, MCR and words x3000 to xFDFF."
pub record SameVisible (m₁ m₂ : Machine) (mem₁ mem₂ : List ℕ) : Type 0 where
  pub regs : m₁.regs ≡ m₂.regs
  pub pc : m₁.pc ≡ m₂.pc
  pub psr : m₁.psr ≡ m₂.psr
  pub mcr : m₁.devices.mcr ≡ m₂.devices.mcr
  pub words : user_words mem₁ ≡ user_words mem₂

-- What User mode cannot alter: MCR, both saved stack pointers, and the words outside x3000 to xFDFF.
pub record Hidden : Type 0 where
  pub mcr : ℕ
  pub saved_ssp : ℕ
  pub saved_usp : ℕ
  pub below : List ℕ
  pub above : List ℕ

abbrev pub hidden_of : Machine → List ℕ → Hidden
hidden_of m mem = record {
  mcr = m.devices.mcr;
  saved_ssp = m.saved_ssp;
  saved_usp = m.saved_usp;
  below = words_below mem;
  above = words_above mem;
}
