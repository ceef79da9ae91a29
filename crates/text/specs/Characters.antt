-- The characters of a line, by their codes in ASCII.
use Rattle.std.specs.Prelude.{ℕ, List, [], ◌∷◌}
use Prim.Native.Char.{code}
use Prim.Native.String.{String}

-- The codes of a text.
abbrev pub codes_in : String → List ℕ
codes_in Prim.Native.String.[] = []
codes_in (Prim.Native.String.◌∷◌ c text) = code c ∷ codes_in text

abbrev pub line_feed : ℕ
line_feed = 0x0A

abbrev pub space : ℕ
space = 0x20

abbrev pub hash : ℕ
hash = 0x23

abbrev pub comma : ℕ
comma = 0x2C

abbrev pub minus : ℕ
minus = 0x2D

abbrev pub dot : ℕ
dot = 0x2E

-- 0 to 9 follow each other from here, and A to F from A
abbrev pub digit0 : ℕ
digit0 = 0x30

abbrev pub A : ℕ
A = 0x41

abbrev pub B : ℕ
B = 0x42

abbrev pub D : ℕ
D = 0x44

abbrev pub E : ℕ
E = 0x45

abbrev pub F : ℕ
F = 0x46

abbrev pub I : ℕ
I = 0x49

abbrev pub J : ℕ
J = 0x4A

abbrev pub L : ℕ
L = 0x4C

abbrev pub M : ℕ
M = 0x4D

abbrev pub N : ℕ
N = 0x4E

abbrev pub O : ℕ
O = 0x4F

abbrev pub P : ℕ
P = 0x50

abbrev pub R : ℕ
R = 0x52

abbrev pub S : ℕ
S = 0x53

abbrev pub T : ℕ
T = 0x54

abbrev pub lower_n : ℕ
lower_n = 0x6E

abbrev pub lower_p : ℕ
lower_p = 0x70

abbrev pub lower_x : ℕ
lower_x = 0x78

abbrev pub lower_z : ℕ
lower_z = 0x7A
