-- Laws of states: the code's own, and those of the table as numbers.
use Prim.Native.Nat.{ℕ, zero, suc, ◌+◌, ◌-◌, ◌*◌, ◌/◌, ◌≤◌, ◌<◌, min}
use native.Mathlib.Omega.{arith}
use mathlib.Core.Path.{◌≡◌, refl, sym, ap, ◌∙◌}
use mathlib.Core.Bool.{Bool, true, false, cond, ◌&&◌, ◌||◌}
use mathlib.Core.List.{List, [], ◌∷◌, map}
use lib.Dec.{eqb, leb}
use borrow.Author.Tests.{le-leb, lt-leb, eq-eqb, ne_eqb, eqb-true, eqb-false}
use lib.ListN.{length, get_or, set, take, drop, length-set, length-take, length-drop}
use native.Mathlib.Decide.{dec_le}
use lib.Seq.{drop-drop, take-length, get_or-set_same, get_or-set_other}
use Rattle.machine.proofs.Tests.{and_false}
use Rattle.std.specs.Prelude.{Some, None, nat_eq}
use Rattle.std.specs.List.{list_all, zip, position, position_from}
use Rattle.std.proofs.lemmas.List.Quantifiers.{position-Some}
use Rattle.std.proofs.lemmas.Iterator.Adapters.{position_from-zero}
use Rattle.sitting.specs.Values.{Value, unset, any, is, high, low, sum, allowed, kind_of, number_of, same}
use Rattle.sitting.specs.Values.{forget, implies, all_imply, taking, besides, all_besides}
use Rattle.sitting.specs.Test.{State, Claim, put, hidden, cell_at, covers, one_covers, held, stored_in, accepts}
use Rattle.claims.specs.Encoding.{cell_of, cells_of, value_of, values_of, state_of, states_of, row_of, rows_of}
use Rattle.claims.specs.Encoding.{start_of}
use Rattle.claims.specs.Decoded.{known_state}
use Rattle.claims.specs.declared.states.State.{State as Values}

-- ---- values

pub says_itself : (v : Value) → implies v v ≡ true
unfolding implies same kind_of number_of
says_itself unset = refl
says_itself any = refl
says_itself (is n) = eq-eqb n n refl
says_itself high = refl
says_itself low = refl
says_itself (sum n) = eq-eqb n n refl
says_itself allowed = refl

pub values_mapped : (ns : List ℕ) → map value_of ns ≡ values_of ns
unfolding values_of
values_mapped [] = refl
values_mapped (n ∷ ns) = rw (values_mapped ns) refl

pub values_forgotten : (xs ys : List ℕ) → length ys ≡ length xs
    → ((i : ℕ) → i < length xs → value_of (get_or ys i 0) ≡ forget (value_of (get_or xs i 0)))
    → map value_of ys ≡ map forget (map value_of xs)
values_forgotten [] [] e h = refl
values_forgotten [] (y ∷ ys) e h = absurd (omega arith)
values_forgotten (x ∷ xs) [] e h = absurd (omega arith)
values_forgotten (x ∷ xs) (y ∷ ys) e h =
    rw (h 0 (omega arith), values_forgotten xs ys (omega arith) (λ i l. h (suc i) (omega arith)))

pub all_said : (vs : List ℕ) (ns : List ℕ) → length vs ≡ length ns
    → list_all (λ (p : ℕ × ℕ). implies (value_of p.0) (value_of p.1)) (zip vs ns)
    ≡ all_imply (map value_of vs) (values_of ns)
unfolding values_of all_imply
all_said [] [] e = refl
all_said [] (n ∷ ns) e = absurd (omega arith)
all_said (v ∷ vs) [] e = absurd (omega arith)
all_said (v ∷ vs) (n ∷ ns) e = rw (all_said vs ns (omega arith)) refl

pub known_set : (ns : List ℕ) (i n : ℕ) → map value_of (set ns i n) ≡ set (map value_of ns) i (value_of n)
known_set [] i n = refl
known_set (m ∷ ns) zero n = refl
known_set (m ∷ ns) (suc i) n = rw (known_set ns i n) refl

-- ---- a state says all that another says

-- The last eight of 17 numbers.
pub last_words : (ns : List ℕ) → length ns ≡ 17 → take 8 (drop 9 ns) ≡ drop 9 ns
last_words ns e =
    let n : length (drop 9 ns) ≡ 8 = simp length-drop (omega arith) in
    (rw n at (take-length (drop 9 ns)))

pub covers_by : (s : Values) (ns : List ℕ) → length s.regs ≡ 8 → length s.words ≡ 8 → length ns ≡ 17
    → covers (known_state s) (state_of ns)
    ≡ (list_all (λ (p : ℕ × ℕ). implies (value_of p.0) (value_of p.1)) (zip s.regs (take 8 ns))
    && (implies (value_of s.codes) (value_of (get_or ns 8 0))
    && list_all (λ (p : ℕ × ℕ). implies (value_of p.0) (value_of p.1)) (zip s.words (take 8 (drop 9 ns)))))
unfolding covers state_of
covers_by s ns e f g =
    let n : length (take 8 ns) ≡ 8 = simp length-take (omega arith) in
    let m : length (drop 9 ns) ≡ 8 = simp length-drop (omega arith) in
    rw (last_words ns g, all_said s.regs (take 8 ns) (omega arith), all_said s.words (drop 9 ns) (omega arith)) refl

-- ---- watched words

held_in : (a : ℕ) (ws : List ℕ) (vs : List ℕ) (j : ℕ) → length ws ≡ length vs → j < length ws
    → nat_eq (get_or ws j 0) a ≡ true → ((k : ℕ) → k < j → nat_eq (get_or ws k 0) a ≡ false)
    → value_of (get_or vs j 0) ≡ held a ws (map value_of vs)
unfolding held
held_in a [] vs j e l h n = absurd (omega arith)
held_in a (w ∷ ws) [] j e l h n = absurd (omega arith)
held_in a (w ∷ ws) (v ∷ vs) zero e l h n = rw (eq-eqb a w (sym (eqb-true w a h))) refl
held_in a (w ∷ ws) (v ∷ vs) (suc j) e l h n =
    rw (ne_eqb a w (λ z. eqb-false w a (n 0 (omega arith)) (sym z)))
    (held_in a ws vs j (omega arith) (omega arith) h (λ k b. n (suc k) (omega arith)))

pub held_there : (a : ℕ) (ws : List ℕ) (vs : List ℕ) (j : ℕ) → length ws ≡ length vs
    → position (λ (w : ℕ). nat_eq w a) ws ≡ Some j → value_of (get_or vs j 0) ≡ held a ws (map value_of vs)
held_there a ws vs j e h =
    let p = position-Some (λ (w : ℕ). nat_eq w a) ws j 0 h in
    held_in a ws vs j e p.0 p.1 p.2

held_past : (a : ℕ) (ws : List ℕ) (vs : List ℕ) (i : ℕ) → position_from (λ (w : ℕ). nat_eq w a) i ws ≡ None
    → any ≡ held a ws (map value_of vs)
unfolding held
held_past a [] vs i h = refl
held_past a (w ∷ ws) [] i h = refl
held_past a (w ∷ ws) (v ∷ vs) i h = go (eqb w a) refl (held_past a ws vs (i + 1))
  where
    go : (b : Bool) → eqb w a ≡ b
        → (position_from (λ (w : ℕ). nat_eq w a) (i + 1) ws ≡ None → any ≡ held a ws (map value_of vs))
        → any ≡ cond (eqb a w) (value_of v) (held a ws (map value_of vs))
    go true e k = let z = rw e at h in cc
    go false e k = rw (ne_eqb a w (λ z. eqb-false w a e (sym z))) (k (rw e at h))

pub held_nowhere : (a : ℕ) (ws : List ℕ) (vs : List ℕ)
    → position (λ (w : ℕ). nat_eq w a) ws ≡ None → any ≡ held a ws (map value_of vs)
held_nowhere a ws vs h = held_past a ws vs 0 (sym (position_from-zero (λ (w : ℕ). nat_eq w a) ws) ∙ h)

-- A state after each of the first j watched words took the value, where it is the one at a.
pub record Remembered (ws : List ℕ) (a : ℕ) (v : ℕ) (xs ys : List ℕ) (j : ℕ) : Type 0 where
  pub size : length ys ≡ length xs
  pub done : (k : ℕ) → k < j → get_or ys k 0 ≡ cond (eqb (get_or ws k 0) a) v (get_or xs k 0)
  pub rest : (k : ℕ) → j ≤ k → get_or ys k 0 ≡ get_or xs k 0

pub none_remembered : (ws : List ℕ) (a : ℕ) (v : ℕ) (xs : List ℕ) → Remembered ws a v xs xs 0
none_remembered ws a v xs = record { size = refl; done = λ k l. absurd (omega arith); rest = λ k l. refl }

pub one_remembered : (ws : List ℕ) (a : ℕ) (v : ℕ) (xs ys : List ℕ) (j : ℕ) → Remembered ws a v xs ys j
    → j < length xs → get_or ws j 0 ≡ a → Remembered ws a v xs (set ys j v) (j + 1)
one_remembered ws a v xs ys j f l e = record {
  size = length-set ys j v ∙ f.size;
  done = λ k h. elim (dec_le (suc k) j) [
    | yes b ↦ get_or-set_other ys j k v 0 (λ z. absurd (omega arith)) ∙ f.done k b
    | no b ↦
        let z : k ≡ j = omega arith in
        rw (z, get_or-set_same ys j v 0 (omega (arith, f.size)), eq-eqb (get_or ws j 0) a e) refl
  ];
  rest = λ k h. get_or-set_other ys j k v 0 (λ z. absurd (omega arith)) ∙ f.rest k (omega arith);
}

pub same_remembered : (ws : List ℕ) (a : ℕ) (v : ℕ) (xs ys : List ℕ) (j : ℕ) → Remembered ws a v xs ys j
    → (get_or ws j 0 ≡ a → ⊥) → Remembered ws a v xs ys (j + 1)
same_remembered ws a v xs ys j f n = record {
  size = f.size;
  done = λ k h. elim (dec_le (suc k) j) [
    | yes b ↦ f.done k b
    | no b ↦
        let z : k ≡ j = omega arith in
        rw (z, ne_eqb (get_or ws j 0) a n) (f.rest j (omega arith))
  ];
  rest = λ k h. f.rest k (omega arith);
}

stored_of : (ws : List ℕ) (xs ys : List ℕ) (a : ℕ) (v : ℕ) → length xs ≡ length ws → length ys ≡ length ws
    → ((k : ℕ) → k < length ws → get_or ys k 0 ≡ cond (eqb (get_or ws k 0) a) v (get_or xs k 0))
    → map value_of ys ≡ stored_in a (value_of v) ws (map value_of xs)
unfolding stored_in
stored_of [] [] [] a v e f h = refl
stored_of [] [] (y ∷ ys) a v e f h = absurd (omega arith)
stored_of [] (x ∷ xs) ys a v e f h = absurd (omega arith)
stored_of (w ∷ ws) [] ys a v e f h = absurd (omega arith)
stored_of (w ∷ ws) (x ∷ xs) [] a v e f h = absurd (omega arith)
stored_of (w ∷ ws) (x ∷ xs) (y ∷ ys) a v e f h =
    rw (h 0 (omega arith), stored_of ws xs ys a v (omega arith) (omega arith) (λ k l. h (suc k) (omega arith)))
    (go (eqb w a))
  where
    go : (b : Bool) → (value_of (cond b v x) ∷ stored_in a (value_of v) ws (map value_of xs))
        ≡ (cond b (value_of v) (value_of x) ∷ stored_in a (value_of v) ws (map value_of xs))
    go true = refl
    go false = refl

pub all_remembered : (ws : List ℕ) (a : ℕ) (v : ℕ) (xs ys : List ℕ) → length xs ≡ length ws
    → Remembered ws a v xs ys (length ws) → map value_of ys ≡ stored_in a (value_of v) ws (map value_of xs)
all_remembered ws a v xs ys e r = stored_of ws xs ys a v e (r.size ∙ e) r.done

-- ---- the rows of a table

-- What covers from state i on: state i, or one after it.
pub row_step : (σ : State) (table : List ℕ) (i end : ℕ) → i < end
    → one_covers σ (states_of (end - i) (drop (i * 17) table))
    ≡ (covers σ (state_of (take 17 (drop (i * 17) table)))
    || one_covers σ (states_of (end - (i + 1)) (drop ((i + 1) * 17) table)))
unfolding one_covers states_of
row_step σ table i end l =
    let n : end - i ≡ suc (end - (i + 1)) = omega arith in
    let e : i * 17 + 17 ≡ (i + 1) * 17 = omega arith in
    let d : drop 17 (drop (i * 17) table) ≡ drop ((i + 1) * 17) table =
    drop-drop 17 (i * 17) table ∙ ap (λ (k : ℕ). drop k table) e in
    rw (n, d) refl

pub row_end : (σ : State) (ns : List ℕ) (n : ℕ) → n ≡ 0 → one_covers σ (states_of n ns) ≡ false
unfolding one_covers states_of
row_end σ ns n e = rw e refl

pub row_of_lem : (table ends : List ℕ) (start k : ℕ) → k < length ends
    → get_or (rows_of table start ends) k [] ≡ row_of table (start_of start ends k) (get_or ends k 0)
unfolding rows_of start_of
row_of_lem table [] start k l = absurd (omega arith)
row_of_lem table (end ∷ ends) start zero l = refl
row_of_lem table (end ∷ ends) start (suc k) l = row_of_lem table ends end k (omega arith)

no_row : (table ends : List ℕ) (start k : ℕ) → length ends ≤ k → get_or (rows_of table start ends) k [] ≡ []
unfolding rows_of
no_row table [] start k l = refl
no_row table (end ∷ ends) start zero l = absurd (omega arith)
no_row table (end ∷ ends) start (suc k) l = no_row table ends end k (omega arith)

-- ---- what the table accepts

pub accepted_of : (σ : State) (c : Claim) (table ends : List ℕ) (pc start end : ℕ) → c.table ≡ rows_of table 0 ends
    → 0x0200 ≤ pc → pc - 0x0200 < length ends
    → end ≡ min (get_or ends (pc - 0x0200) 0) (length table / 17) → start ≡ start_of 0 ends (pc - 0x0200)
    → one_covers σ (states_of (end - start) (drop (start * 17) table)) ≡ accepts c pc σ
unfolding accepts
accepted_of σ c table ends pc start end t l h e f =
    rw (t, le-leb 0x0200 pc l, row_of_lem table ends 0 (pc - 0x0200) h, e, f) refl

pub not_accepted_below : (σ : State) (c : Claim) (pc : ℕ) → pc < 0x0200 → false ≡ accepts c pc σ
unfolding accepts
not_accepted_below σ c pc l = rw (lt-leb 0x0200 pc l) refl

pub not_accepted_past : (σ : State) (c : Claim) (table ends : List ℕ) (pc : ℕ) → c.table ≡ rows_of table 0 ends
    → length ends ≤ pc - 0x0200 → false ≡ accepts c pc σ
unfolding accepts one_covers
not_accepted_past σ c table ends pc t l =
    rw (t, no_row table ends 0 (pc - 0x0200) l) (sym (and_false (leb 0x0200 pc)))

pub start_is : (ends : List ℕ) (start k : ℕ) → k < length ends → get_or ends k 0 ≡ start_of start ends (suc k)
unfolding start_of
start_is [] start k l = absurd (omega arith)
start_is (end ∷ ends) start zero l = refl
start_is (end ∷ ends) start (suc k) l = start_is ends end k (omega arith)

-- ---- cells

pub cell_listed : (kinds memory : List ℕ) (a : ℕ) → a < length kinds → a < length memory
    → cell_at (cells_of kinds memory) a ≡ cell_of (get_or kinds a 0) (get_or memory a 0)
unfolding cells_of
cell_listed [] memory a l h = absurd (omega arith)
cell_listed (k ∷ kinds) [] a l h = absurd (omega arith)
cell_listed (k ∷ kinds) (w ∷ memory) zero l h = refl
cell_listed (k ∷ kinds) (w ∷ memory) (suc a) l h = cell_listed kinds memory a (omega arith) (omega arith)

pub cell_past_kinds : (kinds memory : List ℕ) (a : ℕ) → length kinds ≤ a → cell_at (cells_of kinds memory) a ≡ hidden
unfolding cells_of
cell_past_kinds [] memory a l = refl
cell_past_kinds (k ∷ kinds) [] a l = refl
cell_past_kinds (k ∷ kinds) (w ∷ memory) zero l = absurd (omega arith)
cell_past_kinds (k ∷ kinds) (w ∷ memory) (suc a) l = cell_past_kinds kinds memory a (omega arith)

pub cell_past_memory : (kinds memory : List ℕ) (a : ℕ) → length memory ≤ a → cell_at (cells_of kinds memory) a ≡ hidden
unfolding cells_of
cell_past_memory [] memory a l = refl
cell_past_memory (k ∷ kinds) [] a l = refl
cell_past_memory (k ∷ kinds) (w ∷ memory) zero l = absurd (omega arith)
cell_past_memory (k ∷ kinds) (w ∷ memory) (suc a) l = cell_past_memory kinds memory a (omega arith)

pub no_kind : (w : ℕ) → hidden ≡ cell_of 0 w
unfolding cell_of
no_kind w = refl

-- R6 takes a value: what is known of the codes and of watched words stays.
pub put_six : (v : Value) (σ : State)
    → put 6 v σ ≡ record { regs = taking 6 v σ.regs; codes = σ.codes; words = σ.words }
unfolding put besides all_besides
put_six v σ = refl
