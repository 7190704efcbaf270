-- A set whose lanes carry the same is a token.
use Rattle.std.proofs.Common.{ℕ, zero, suc, ◌≤◌, ◌≡◌, ◌≢◌, ◌∙◌, List, [], ◌∷◌, Bool, true, false, Option, Some, None}
use Rattle.std.proofs.Common.{length, refl, sym, ap, subst, arith, inl, inr}
use Rattle.std.specs.Prelude.{⊤, ◌==◌, ◌&&◌, ◌||◌, not, if◌then◌else◌}
use Rattle.dpx_base.specs.declared.sym.Sym.{Sym}
use Rattle.dpx_base.specs.Symbols.{data_symbol, control_symbol}
use Rattle.dpx_grammar.specs.Machine.{Code, a_bs, a_sr, a_be, an_ss, an_se, an_fs, an_fe, a_bf, byte_of, Token, row}
use Rattle.dpx_grammar.specs.Machine.{code, token_set, IsToken}
use Rattle.dpx_grammar.specs.Parts.{data_set, control_set}
use Rattle.dpx_base.specs.Symbols.{cp}
use Rattle.dpx_parse.specs.FirstFault.{IsUniform}
use Rattle.dpx_base.specs.Symbols.{bytes_of}
use Rattle.dpx_parse.specs.Kind.{control_kind, symbol_kind, same_bool, is_same, all_same, kind_of}
use Rattle.dpx_parse.specs.declared.kind.Kind.{Kind}
use Rattle.dpx_parse.specs.declared.kind.Kind.TheVariants.{Data, Bs, Sr, Be, Ss, Se, Fs, Fe, Bf, Cp, Other}
use Rattle.dpx_parse.proofs.Steps.{code_kind, token_kind}

both : (a b : Bool) → (a && b) ≡ true → (a ≡ true) × (b ≡ true)
both true b e = (refl, e)
both false b e = absurd (cc)

-- ---- a token's set

same_self : (n : ℕ) → n == n ≡ true
same_self n = grind arith

rows_same : (b : ℕ) (bytes : List ℕ) → all_same (data_symbol b) (data_set bytes) ≡ true
rows_same b [] = refl
rows_same b (x ∷ bytes) = rows_same b bytes

codes_same : (b n : ℕ) → all_same (control_symbol b) (control_set n b) ≡ true
codes_same b zero = refl
codes_same b (suc n) = let s = same_self b in let i = codes_same b n in rw (s, i) refl

code_is : (c : Code) → control_kind (byte_of c) ≡ code_kind c
code_is a_bs = refl
code_is a_sr = refl
code_is a_be = refl
code_is an_ss = refl
code_is an_se = refl
code_is an_fs = refl
code_is an_fe = refl
code_is a_bf = refl

pub token_kinds : (n : ℕ) (t : Token) → IsToken (suc n) t → kind_of (token_set (suc n) t) ≡ Some (token_kind t)
token_kinds n (row []) h = absurd (omega (arith, h))
token_kinds n (row (b ∷ bytes)) h = let s = rows_same b (b ∷ bytes) in rw s refl
token_kinds n (code c) h = let s = codes_same (byte_of c) (suc n) in rw s (ap (λ k. Some k) (code_is c))

-- ---- a set of one kind

sym_is : (s : Sym) (c : Bool) (b : ℕ) → s.control ≡ c → s.byte ≡ b → record { control = c; byte = b } ≡ s
sym_is s c b e f = ap (λ x. pair_of x b) (sym e) ∙ ap (λ y. pair_of s.control y) (sym f)
  where
    pair_of : Bool → ℕ → Sym
    pair_of x y = record { control = x; byte = y }

data_one : (x y q : Bool) → (same_bool x y && (not x || q)) ≡ true → x ≡ false → y ≡ false
data_one false false q h e = refl
data_one false true q h e = absurd (cc)
data_one true y q h e = absurd (cc)

code_one : (x y q : Bool) → (same_bool x y && (not x || q)) ≡ true → x ≡ true → (y ≡ true) × (q ≡ true)
code_one false y q h e = absurd (cc)
code_one true true q h e = (refl, h)
code_one true false q h e = absurd (cc)

pub all_data : (s : Sym) (ts : List Sym) → s.control ≡ false → all_same s ts ≡ true → data_set (bytes_of ts) ≡ ts
all_data s [] e h = refl
all_data s (t ∷ ts) e h =
    let b = both (is_same s t) (all_same s ts) h in
    let c : t.control ≡ false = data_one s.control t.control (s.byte == t.byte) b.0 e in
    ap (λ x. x ∷ data_set (bytes_of ts)) (sym_is t false t.byte c refl) ∙ ap (λ xs. t ∷ xs) (all_data s ts e b.1)

pub all_code : (s : Sym) (ts : List Sym) → s.control ≡ true → all_same s ts ≡ true → control_set (length ts) s.byte ≡ ts
all_code s [] e h = refl
all_code s (t ∷ ts) e h =
    let b = both (is_same s t) (all_same s ts) h in
    let c = code_one s.control t.control (s.byte == t.byte) b.0 e in
    let q : t.byte ≡ s.byte = eq_of s.byte t.byte c.1 in
    ap (λ x. x ∷ control_set (length ts) s.byte) (sym_is t true s.byte c.0 q) ∙ ap (λ xs. t ∷ xs) (all_code s ts e b.1)
  where
    eq_of : (a b : ℕ) → a == b ≡ true → b ≡ a
    eq_of a b h = grind arith

-- ---- which control symbol

abbrev pub IsByte : Kind → ℕ → Type 0
IsByte Data n = ⊤
IsByte Bs n = n ≡ 0xbc
IsByte Sr n = n ≡ 0x1c
IsByte Be n = n ≡ 0xfb
IsByte Ss n = n ≡ 0x5c
IsByte Se n = n ≡ 0xfd
IsByte Fs n = n ≡ 0xfe
IsByte Fe n = n ≡ 0xf7
IsByte Bf n = n ≡ 0x7c
IsByte Cp n = n ≡ 0x3c
IsByte Other n = ⊤

pick : (n c : ℕ) (k rest : Kind) → (n ≡ c → IsByte k n) → IsByte rest n → IsByte (if n == c then k else rest) n
pick n c k rest f g = go (n == c) refl
  where
    go : (b : Bool) → (n == c) ≡ b → IsByte (if b then k else rest) n
    go true q = let e : n ≡ c = grind arith in f e
    go false q = g

pub byte_is : (n : ℕ) → IsByte (control_kind n) n
byte_is n =
    pick n 0xbc Bs _ (λ e. e) (pick n 0x1c Sr _ (λ e. e)
    (pick n 0xfb Be _ (λ e. e) (pick n 0x5c Ss _ (λ e. e) (pick n 0xfd Se _ (λ e. e)
    (pick n 0xfe Fs _ (λ e. e) (pick n 0xf7 Fe _ (λ e. e)
    (pick n 0x7c Bf _ (λ e. e) (pick n 0x3c Cp Other (λ e. e) tt))))))))

abbrev IsControl : Kind → Type 0
IsControl Data = ⊥
IsControl _ = ⊤

choose : (b : Bool) (k rest : Kind) → IsControl k → IsControl rest → IsControl (if b then k else rest)
choose true k rest f g = f
choose false k rest f g = g

is_control : (n : ℕ) → IsControl (control_kind n)
is_control n =
    choose (n == 0xbc) Bs _ tt (choose (n == 0x1c) Sr _ tt
    (choose (n == 0xfb) Be _ tt (choose (n == 0x5c) Ss _ tt (choose (n == 0xfd) Se _ tt
    (choose (n == 0xfe) Fs _ tt (choose (n == 0xf7) Fe _ tt
    (choose (n == 0x7c) Bf _ tt (choose (n == 0x3c) Cp Other tt tt))))))))

-- a token of this set
pub record IsTokenOf (n : ℕ) (set : List Sym) (k : Kind) : Type 0 where
  pub token : Token
  pub sets : token_set n token ≡ set
  pub good : IsToken n token
  pub kind : token_kind token ≡ k

code_token : (n byte : ℕ) (set : List Sym) (c : Code) (k : Kind) → control_set n byte ≡ set → byte ≡ byte_of c
    → code_kind c ≡ k → IsTokenOf n set k
code_token n byte set c k e f g = record {
  token = code c;
  sets = ap (λ b. control_set n b) (sym f) ∙ e;
  good = tt;
  kind = g;
}

control_token : (n byte : ℕ) (set : List Sym) (k : Kind) → control_set n byte ≡ set → IsByte k byte → IsControl k
    → k ≢ Cp → k ≢ Other → IsTokenOf n set k
control_token n byte set Data e f g a b = absurd g
control_token n byte set Bs e f g a b = code_token n byte set a_bs Bs e f refl
control_token n byte set Sr e f g a b = code_token n byte set a_sr Sr e f refl
control_token n byte set Be e f g a b = code_token n byte set a_be Be e f refl
control_token n byte set Ss e f g a b = code_token n byte set an_ss Ss e f refl
control_token n byte set Se e f g a b = code_token n byte set an_se Se e f refl
control_token n byte set Fs e f g a b = code_token n byte set an_fs Fs e f refl
control_token n byte set Fe e f g a b = code_token n byte set an_fe Fe e f refl
control_token n byte set Bf e f g a b = code_token n byte set a_bf Bf e f refl
control_token n byte set Cp e f g a b = absurd (a refl)
control_token n byte set Other e f g a b = absurd (b refl)

some_kind : (b : Bool) (x k : Kind) → (if b then Some x else None) ≡ Some k → (b ≡ true) × (x ≡ k)
some_kind true x k e = (refl, cc)
some_kind false x k e = absurd (cc)

bytes_length : (set : List Sym) → length (bytes_of set) ≡ length set
bytes_length [] = refl
bytes_length (s ∷ set) = ap suc (bytes_length set)

pub find_token : (n : ℕ) (set : List Sym) (k : Kind) → length set ≡ n → kind_of set ≡ Some k → k ≢ Cp → k ≢ Other
    → IsTokenOf n set k
find_token n [] k l h a b = absurd (cc)
find_token n (s ∷ set) k l h a b = go s.control refl
  where
    h' : (all_same s (s ∷ set) ≡ true) × (symbol_kind s ≡ k)
    h' = some_kind (all_same s (s ∷ set)) (symbol_kind s) k h

    go : (v : Bool) → s.control ≡ v → IsTokenOf n (s ∷ set) k
    go false e =
        let d : Data ≡ k = ap (λ v. if v then control_kind s.byte else Data) (sym e) ∙ h'.1 in
        record {
          token = row (bytes_of (s ∷ set));
          sets = all_data s (s ∷ set) e h'.0;
          good =
              bytes_length (s ∷ set) ∙ l;
          kind = d;
        }
    go true e =
        let d : control_kind s.byte ≡ k = ap (λ v. if v then control_kind s.byte else Data) (sym e) ∙ h'.1 in
        control_token n s.byte (s ∷ set) k (ap (λ m. control_set m s.byte) (sym l) ∙ all_code s (s ∷ set) e h'.0)
        (subst (λ x. IsByte x s.byte) d (byte_is s.byte)) (subst IsControl d (is_control s.byte)) a b

-- ---- uniform sets

pub uniform_of : (set : List Sym) (k : Kind) → kind_of set ≡ Some k → IsUniform set
uniform_of [] k h = absurd (cc)
uniform_of (s ∷ set) k h = go s.control refl
  where
    h' : (all_same s (s ∷ set) ≡ true) × (symbol_kind s ≡ k)
    h' = some_kind (all_same s (s ∷ set)) (symbol_kind s) k h

    go : (v : Bool) → s.control ≡ v → IsUniform (s ∷ set)
    go false e = inl (bytes_of (s ∷ set), sym (all_data s (s ∷ set) e h'.0))
    go true e = inr (s.byte, sym (all_code s (s ∷ set) e h'.0))

no_kind : (k : Kind) → None ≡ Some k → ⊥
no_kind k e = cc

pub mixed_of : (set : List Sym) → 1 ≤ length set → kind_of set ≡ None → IsUniform set → ⊥
mixed_of [] l h u = omega (arith, l)
mixed_of (s ∷ set) l h (inl ([], e)) = cc
mixed_of (s ∷ set) l h (inl (b ∷ bytes, e)) =
    let r = rows_same b (b ∷ bytes) in
    let k : kind_of (data_set (b ∷ bytes)) ≡ Some Data = rw r refl in
    no_kind Data (sym h ∙ ap kind_of e ∙ k)
mixed_of (s ∷ set) l h (inr (byte, e)) =
    let r = codes_same byte (suc (length set)) in
    let k : kind_of (control_set (suc (length set)) byte) ≡ Some (control_kind byte) = rw r refl in
    no_kind (control_kind byte) (sym h ∙ ap kind_of e ∙ k)

pub bytes_back : (bytes : List ℕ) → bytes_of (data_set bytes) ≡ bytes
bytes_back [] = refl
bytes_back (b ∷ bytes) = ap (λ xs. b ∷ xs) (bytes_back bytes)

-- ---- content protection

code_set : (n : ℕ) (s : Sym) (set : List Sym) (k : Kind) → length (s ∷ set) ≡ n → kind_of (s ∷ set) ≡ Some k → k ≢ Data
    → (s ∷ set ≡ control_set n s.byte) × (control_kind s.byte ≡ k)
code_set n s set k l h a = go s.control refl
  where
    h' : (all_same s (s ∷ set) ≡ true) × (symbol_kind s ≡ k)
    h' = some_kind (all_same s (s ∷ set)) (symbol_kind s) k h

    go : (v : Bool) → s.control ≡ v → (s ∷ set ≡ control_set n s.byte) × (control_kind s.byte ≡ k)
    go false e = absurd (a (sym (ap (λ v. if v then control_kind s.byte else Data) (sym e) ∙ h'.1)))
    go true e = (
      sym (ap (λ m. control_set m s.byte) (sym l) ∙ all_code s (s ∷ set) e h'.0),
      ap (λ v. if v then control_kind s.byte else Data) (sym e) ∙ h'.1,
    )

pub cp_set : (n : ℕ) (set : List Sym) → length set ≡ n → kind_of set ≡ Some Cp → set ≡ control_set n cp
cp_set n [] l h = absurd (cc)
cp_set n (s ∷ set) l h =
    let c = code_set n s set Cp l h (λ e. cc) in
    let b : s.byte ≡ cp = subst (λ k. IsByte k s.byte) c.1 (byte_is s.byte) in
    c.0 ∙ ap (control_set n) b

pub cp_kind : (n : ℕ) (set : List Sym) (k : Kind) → 1 ≤ n → kind_of set ≡ Some k → set ≡ control_set n cp → k ≡ Cp
cp_kind zero set k a h e = absurd (omega (arith, a))
cp_kind (suc n) set k a h e =
    let r = codes_same cp (suc n) in
    let w : kind_of (control_set (suc n) cp) ≡ Some Cp = rw r refl in
    kinds_one k Cp (sym h ∙ ap kind_of e ∙ w)
  where
    kinds_one : (j k : Kind) → ◌≡◌ {A = Option Kind} (Some j) (Some k) → j ≡ k
    kinds_one j k e = cc
