-- The sets of an unfinished line, set by set.
use Rattle.std.proofs.Common.{ℕ, zero, suc, ◌+◌, ◌≡◌, ◌∙◌, List, [], ◌∷◌, ◌++◌, Option, Some, None}
use Rattle.std.proofs.Common.{Bool, true, false, map, length, refl, ap, arith, length-append}
use Rattle.std.specs.Prelude.{⊤, min, ◌-◌, ◌^◌, if◌then◌else◌}
use Rattle.std.proofs.lemmas.List.{length-map}
use Rattle.dpx_grammar.specs.Machine.{a_bs, a_sr, a_be, an_ss, an_se, an_fs, an_fe, a_bf, Token, row, code}
use Rattle.dpx_grammar.specs.Machine.{Place, start, head, ids, blank, opened, numbers, packet, active, fill}
use Rattle.dpx_grammar.specs.Machine.{step}
use Rattle.dpx_grammar.specs.Parts.{Part, stuffing}
use Rattle.dpx_grammar.specs.Parts.{sets_of, data_set, control_set}
use Rattle.dpx_base.specs.Symbols.{fe}
use Rattle.dpx_parse.specs.Stands.{state_of, tail_at, is_live_at, number_of}
use Rattle.dpx_parse.specs.State.{is_open}
use Rattle.dpx_parse.proofs.Takes.{grown_back}

-- ---- the sets of an unfinished line

abbrev pub TailBy : Bool → ℕ → List Part → Place → Option (Option Part × Place) → Type 0
TailBy e lanes whole s None = ⊤
TailBy e lanes whole s (Some to) = tail_at e lanes (grown_back whole to.0) to.1
    ≡ (if is_live_at to.1 then tail_at e lanes whole s + 1 else 0)

fill_length : (e : Bool) (lanes : ℕ) (rows : List (List ℕ))
    → length (sets_of e lanes (stuffing (Some rows))) ≡ length rows + 2
fill_length e lanes rows =
    let a : length (map data_set rows ++ control_set lanes fe ∷ []) ≡ length rows + 1 =
    length-append (map data_set rows) (control_set lanes fe ∷ []) ∙ ap (λ n. n + 1) (length-map rows data_set) in
    omega (arith, a)

pub tail_step : (e : Bool) (lanes b a : ℕ) (whole : List Part) (s : Place) (t : Token)
    → TailBy e lanes whole s (step e b a s t)
tail_step true lanes b a whole start (code a_sr) = refl
tail_step false lanes b a whole start (code a_sr) = refl
tail_step e lanes b a whole start t = tt
tail_step e lanes b a whole (head reset (suc zero)) (code a_bf) = refl
tail_step e lanes b a whole (head reset (suc (suc zero))) (code a_bf) = refl
tail_step e lanes b a whole (head true (suc (suc (suc zero)))) (code a_sr) = refl
tail_step e lanes b a whole (head false (suc (suc (suc zero)))) (code a_bs) = refl
tail_step e lanes b a whole (head reset n) t = tt
tail_step e lanes b a whole (ids rows (suc zero)) (row x) = refl
tail_step e lanes b a whole (ids rows (suc (suc n))) (row x) = refl
tail_step e lanes b a whole (ids rows n) t = tt
tail_step e lanes b a whole blank (row x) = refl
tail_step true lanes b a whole blank (code a_sr) = refl
tail_step false lanes b a whole blank (code a_sr) = refl
tail_step true lanes b a whole blank (code a_bs) = refl
tail_step false lanes b a whole blank (code a_bs) = refl
tail_step e lanes b a whole blank (code a_be) = refl
tail_step e lanes b a whole blank (code an_ss) = refl
tail_step e lanes b a whole blank t = tt
tail_step e lanes b a whole opened (code an_ss) = refl
tail_step e lanes b a whole opened (row x) = refl
tail_step e lanes b a whole opened t = tt
tail_step e lanes b a whole (numbers rows (suc n)) (row x) = refl
tail_step e lanes b a whole (numbers rows zero) (code an_se) = refl
tail_step e lanes b a whole (numbers rows n) t = tt
tail_step e lanes b a whole (packet rows) (row x) = refl
tail_step e lanes b a whole (packet rows) (code an_se) = refl
tail_step e lanes b a whole (packet rows) t = tt
tail_step e lanes b a whole active (row x) = omega arith
tail_step true lanes b a whole active (code a_sr) = refl
tail_step false lanes b a whole active (code a_sr) = refl
tail_step true lanes b a whole active (code a_bs) = refl
tail_step false lanes b a whole active (code a_bs) = refl
tail_step e lanes b a whole active (code an_fe) = omega arith
tail_step e lanes b a whole active (code an_fs) = omega arith
tail_step e lanes b a whole active t = tt
tail_step e lanes b a whole (fill rows) (row x) = omega (arith, length-append rows (x ∷ []))
tail_step e lanes b a whole (fill rows) (code an_fe) = omega (arith, fill_length e lanes rows)
tail_step e lanes b a whole (fill rows) t = tt

pub open_live : (s : Place) → is_open (state_of s) ≡ is_live_at s
open_live start = refl
open_live (head r zero) = refl
open_live (head r (suc zero)) = refl
open_live (head r (suc (suc zero))) = refl
open_live (head r (suc (suc (suc n)))) = refl
open_live (ids rows n) = refl
open_live blank = refl
open_live opened = refl
open_live (numbers rows n) = refl
open_live (packet rows) = refl
open_live active = refl
open_live (fill rows) = refl

pub open_more : (o v : Bool) (unended tail : ℕ) → o ≡ v → unended ≡ number_of tail
    → (if o then min (unended + 1) (2 ^ 64 - 1) else 0) ≡ number_of (if v then tail + 1 else 0)
open_more o true unended tail e h = rw e (omega (arith, h))
open_more o false unended tail e h = rw e refl
