-- The machine's table is that of the reading part by part.
use Rattle.std.proofs.Common.{ℕ, zero, suc, ◌%◌, ◌≤◌, ◌≡◌, Bool, true, false, Option, Some, None, refl}
use Rattle.std.proofs.Common.{arith}
use Rattle.std.specs.Prelude.{⊤, ◌==◌, ◌-◌, nat_le, if◌then◌else◌}
use Rattle.dpx_grammar.specs.Parts.{Part}
use Rattle.dpx_grammar.specs.Machine.{Code, a_bs, a_sr, a_be, an_ss, an_se, an_fs, an_fe, a_bf, Token, row, code, Place}
use Rattle.dpx_grammar.specs.Machine.{start, head, ids, blank, opened, numbers, packet, active, fill, step}
use Rattle.dpx_parse.specs.State.{next, in_ids, in_numbers}
use Rattle.dpx_parse.specs.Stands.{state_of}
use Rattle.dpx_parse.specs.declared.kind.Kind.{Kind}
use Rattle.dpx_parse.specs.declared.kind.Kind.TheVariants.{Data, Bs, Sr, Be, Ss, Se, Fs, Fe, Bf}
use Rattle.dpx_parse.specs.declared.state.Mark.{Mark}
use Rattle.dpx_parse.specs.declared.state.Mark.TheVariants.{Head, Id, Opens, Number, AttributesEnd, Begins, Valid}
use Rattle.dpx_parse.specs.declared.state.Mark.TheVariants.{Other}

abbrev pub code_kind : Code → Kind
code_kind a_bs = Bs
code_kind a_sr = Sr
code_kind a_be = Be
code_kind an_ss = Ss
code_kind an_se = Se
code_kind an_fs = Fs
code_kind an_fe = Fe
code_kind a_bf = Bf

abbrev pub token_kind : Token → Kind
token_kind (row bytes) = Data
token_kind (code c) = code_kind c

abbrev pub mark_at : Place → Token → Mark
mark_at start t = Head
mark_at (ids rows n) t = if n % 3 == 0 then Id else Other
mark_at blank (code a_sr) = Head
mark_at blank (code a_bs) = Head
mark_at blank (code a_be) = Begins
mark_at opened (code an_ss) = Opens
mark_at (numbers rows n) (row bytes) = Number
mark_at (numbers rows n) (code c) = AttributesEnd
mark_at active (row bytes) = Valid
mark_at active (code a_sr) = Head
mark_at active (code a_bs) = Head
mark_at _ t = Other

abbrev pub IsAt : Place → Type 0
IsAt (head reset n) = (1 ≤ n) × (n ≤ 3)
IsAt (ids rows n) = 1 ≤ n
IsAt _ = ⊤

abbrev pub Same : (e : Bool) (b a : ℕ) → Place → Token → Option (Option Part × Place) → Type 0
Same e b a s t None = next e b a (state_of s) (token_kind t) ≡ None
Same e b a s t (Some to) = next e b a (state_of s) (token_kind t) ≡ Some (mark_at s t, state_of to.1)

head_same : (e : Bool) (b a : ℕ) (reset : Bool) (n : ℕ) (t : Token) → 1 ≤ n → n ≤ 3
    → Same e b a (head reset n) t (step e b a (head reset n) t)
head_same e b a reset zero t l h = absurd (omega arith)
head_same e b a reset (suc zero) (code a_bf) l h = refl
head_same e b a true (suc zero) t l h = refl
head_same e b a false (suc zero) t l h = refl
head_same e b a reset (suc (suc zero)) (code a_bf) l h = refl
head_same e b a true (suc (suc zero)) t l h = refl
head_same e b a false (suc (suc zero)) t l h = refl
head_same e b a true (suc (suc (suc zero))) (code a_sr) l h = refl
head_same e b a true (suc (suc (suc zero))) t l h = refl
head_same e b a false (suc (suc (suc zero))) (code a_bs) l h = refl
head_same e b a false (suc (suc (suc zero))) t l h = refl
head_same e b a reset (suc (suc (suc (suc n)))) t l h = absurd (omega arith)

ids_code : (n : ℕ) (c : Code) → in_ids n (code_kind c) ≡ None
ids_code n a_bs = refl
ids_code n a_sr = refl
ids_code n a_be = refl
ids_code n an_ss = refl
ids_code n an_se = refl
ids_code n an_fs = refl
ids_code n an_fe = refl
ids_code n a_bf = refl

numbers_code : (n : ℕ) (c : Code) → in_numbers (suc n) (code_kind c) ≡ None
numbers_code n a_bs = refl
numbers_code n a_sr = refl
numbers_code n a_be = refl
numbers_code n an_ss = refl
numbers_code n an_se = let z : suc n == 0 ≡ false = grind arith in rw z refl
numbers_code n an_fs = refl
numbers_code n an_fe = refl
numbers_code n a_bf = refl

pub same : (e : Bool) (b a : ℕ) (s : Place) (t : Token) → IsAt s → Same e b a s t (step e b a s t)
same true b a start (code a_sr) h = refl
same false b a start (code a_sr) h = refl
same e b a start t h = refl
same e b a (head reset n) t h = head_same e b a reset n t h.0 h.1
same e b a (ids rows zero) t h = absurd (omega arith)
same e b a (ids rows (suc zero)) (row bytes) h = refl
same e b a (ids rows (suc (suc n))) (row bytes) h =
    let l : nat_le (suc (suc n)) 1 ≡ false = grind arith in
    let d : suc (suc n) - 1 ≡ suc n = omega arith in
    rw (l, d) refl
same e b a (ids rows (suc zero)) (code c) h = ids_code 1 c
same e b a (ids rows (suc (suc n))) (code c) h = ids_code (suc (suc n)) c
same e b a blank (row bytes) h = refl
same true b a blank (code a_sr) h = refl
same false b a blank (code a_sr) h = refl
same true b a blank (code a_bs) h = refl
same false b a blank (code a_bs) h = refl
same e b a blank (code a_be) h = refl
same e b a blank (code an_ss) h = refl
same e b a blank t h = refl
same e b a opened (code an_ss) h = refl
same e b a opened (row bytes) h = refl
same e b a opened t h = refl
same e b a (numbers rows (suc n)) (row bytes) h =
    let z : suc n == 0 ≡ false = grind arith in
    let d : suc n - 1 ≡ n = omega arith in
    rw (z, d) refl
same e b a (numbers rows zero) (code an_se) h = refl
same e b a (numbers rows zero) t h = refl
same e b a (numbers rows (suc n)) (code c) h = numbers_code n c
same e b a (packet rows) (row bytes) h = refl
same e b a (packet rows) (code an_se) h = refl
same e b a (packet rows) t h = refl
same e b a active (row bytes) h = refl
same e b a active (code an_fe) h = refl
same e b a active (code an_fs) h = refl
same true b a active (code a_sr) h = refl
same false b a active (code a_sr) h = refl
same true b a active (code a_bs) h = refl
same false b a active (code a_bs) h = refl
same e b a active t h = refl
same e b a (fill rows) (row bytes) h = refl
same e b a (fill rows) (code an_fe) h = refl
same e b a (fill rows) t h = refl

abbrev pub IsAtEnd : Option (Option Part × Place) → Type 0
IsAtEnd None = ⊤
IsAtEnd (Some to) = IsAt to.1

pub step_at : (e : Bool) (b a : ℕ) (s : Place) (t : Token) → 1 ≤ b → IsAt s → IsAtEnd (step e b a s t)
step_at true b a start (code a_sr) h i = (omega arith, omega arith)
step_at false b a start (code a_sr) h i = h
step_at e b a start t h i = tt
step_at e b a (head reset (suc zero)) (code a_bf) h i = (omega arith, omega arith)
step_at e b a (head reset (suc (suc zero))) (code a_bf) h i = (omega arith, omega arith)
step_at e b a (head true (suc (suc (suc zero)))) (code a_sr) h i = h
step_at e b a (head false (suc (suc (suc zero)))) (code a_bs) h i = h
step_at e b a (head reset n) t h i = tt
step_at e b a (ids rows (suc zero)) (row x) h i = tt
step_at e b a (ids rows (suc (suc n))) (row x) h i = omega arith
step_at e b a (ids rows n) t h i = tt
step_at e b a blank (row x) h i = tt
step_at true b a blank (code a_sr) h i = (omega arith, omega arith)
step_at false b a blank (code a_sr) h i = h
step_at true b a blank (code a_bs) h i = (omega arith, omega arith)
step_at false b a blank (code a_bs) h i = h
step_at e b a blank (code a_be) h i = tt
step_at e b a blank (code an_ss) h i = tt
step_at e b a blank t h i = tt
step_at e b a opened (code an_ss) h i = tt
step_at e b a opened (row x) h i = tt
step_at e b a opened t h i = tt
step_at e b a (numbers rows (suc n)) (row x) h i = tt
step_at e b a (numbers rows zero) (code an_se) h i = tt
step_at e b a (numbers rows n) t h i = tt
step_at e b a (packet rows) (row x) h i = tt
step_at e b a (packet rows) (code an_se) h i = tt
step_at e b a (packet rows) t h i = tt
step_at e b a active (row x) h i = tt
step_at true b a active (code a_sr) h i = (omega arith, omega arith)
step_at false b a active (code a_sr) h i = h
step_at true b a active (code a_bs) h i = (omega arith, omega arith)
step_at false b a active (code a_bs) h i = h
step_at e b a active (code an_fe) h i = tt
step_at e b a active (code an_fs) h i = tt
step_at e b a active t h i = tt
step_at e b a (fill rows) (row x) h i = tt
step_at e b a (fill rows) (code an_fe) h i = tt
step_at e b a (fill rows) t h i = tt
