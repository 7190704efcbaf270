-- What is kept stays right, set by set.
use Rattle.std.proofs.Common.{ℕ, zero, suc, ◌+◌, ◌/◌, ◌≤◌, ◌≡◌, List, [], ◌∷◌, ◌++◌, Option, Bool, Some, None, true}
use Rattle.std.proofs.Common.{false, refl, sym, subst, arith, length-append}
use Rattle.std.specs.Prelude.{⊤}
use Rattle.dpx_base.specs.declared.lanes.Lanes.{Lanes}
use Rattle.dpx_base.specs.Lanes.{lanes_count}
use Rattle.dpx_grammar.specs.Machine.{a_bs, a_sr, a_be, an_ss, an_se, an_fs, an_fe, a_bf, Token, row, code, IsToken}
use Rattle.dpx_grammar.specs.Machine.{Place, start, head, ids, blank, opened, numbers, packet, active, fill, step}
use Rattle.dpx_grammar.specs.Parts.{Part, group, block}
use Rattle.dpx_parse.specs.Faults.{AllStand}
use Rattle.dpx_parse.specs.Stands.{told, Knows}
use Rattle.dpx_parse.specs.declared.counts.Counts.{Counts}
use Rattle.dpx_parse.specs.declared.state.Mark.TheVariants.{Head}
use Rattle.dpx_parse.proofs.Steps.{mark_at}
use Rattle.dpx_parse.proofs.Keeps.{Kept, stay, open_kept, number_kept, filler_kept, secondary_kept, stuffing_kept}
use Rattle.dpx_parse.proofs.Keeps.{head_kept, one_row}
use Rattle.dpx_parse.proofs.KeepsLines.{end_kept, begin_kept, valid_kept}
use Rattle.dpx_parse.proofs.KeepsIds.{id_kept}

abbrev pub grown_back : List Part → Option Part → List Part
grown_back whole None = whole
grown_back whole (Some part) = part ∷ whole

abbrev pub row_bytes : Token → List ℕ → List ℕ
row_bytes (row bytes) other = bytes
row_bytes (code c) other = other

abbrev pub KeptBy : ℕ → Counts → List Part → Place → Token → List ℕ → Option (Option Part × Place) → Type 0
KeptBy lanes c whole s t other None = ⊤
KeptBy lanes c whole s t other (Some to) =
    Kept lanes c (told whole s) (told (grown_back whole to.0) to.1) to.1 (mark_at s t) (row_bytes t other)

told_ids : (whole : List Part) (rows : List (List ℕ)) (x : List ℕ) (n : ℕ)
    → told whole (ids (rows ++ x ∷ []) n) ≡ block (rows ++ x ∷ []) ∷ whole
told_ids whole [] x n = refl
told_ids whole (r ∷ rows) x n = refl

-- behind the one symbol of a group in default framing
group_kept : (l : Lanes) (c : Counts) (whole : List Part) (s : Place) (reset : Bool) (other : List ℕ)
    → Knows (lanes_count l) c whole s
    → AllStand (lanes_count l) whole → 1 ≤ 12 / lanes_count l
    → Kept (lanes_count l) c whole (group reset ∷ whole) (ids [] (12 / lanes_count l)) Head other
group_kept l c whole s reset other k h b =
    head_kept (lanes_count l) c whole s reset other (ids [] (12 / lanes_count l)) refl
    (λ d e. (tt, let z : 0 + 12 / lanes_count l ≡ 12 / lanes_count l = omega arith in z, b, e)) k h

pub kept : (e : Bool) (l : Lanes) (c : Counts) (whole : List Part) (s : Place) (t : Token) (other : List ℕ)
    → IsToken (lanes_count l) t
    → Knows (lanes_count l) c (told whole s) s → AllStand (lanes_count l) (told whole s) → 1 ≤ 12 / lanes_count l
    → KeptBy (lanes_count l) c whole s t other (step e (12 / lanes_count l) (36 / lanes_count l) s t)
kept true l c whole start (code a_sr) other g k h b =
    head_kept (lanes_count l) c whole start true other (head true 1) refl (λ d e. (omega arith, omega arith, e)) k h
kept false l c whole start (code a_sr) other g k h b = group_kept l c whole start true other k h b
kept e l c whole start t other g k h b = tt
kept e l c whole (head reset (suc zero)) (code a_bf) other g k h b =
    stay (lanes_count l) c (group reset ∷ whole) (head reset 1) (head reset 2) other k h refl
    (omega arith, omega arith, k.at.2)
kept e l c whole (head reset (suc (suc zero))) (code a_bf) other g k h b =
    stay (lanes_count l) c (group reset ∷ whole) (head reset 2) (head reset 3) other k h refl
    (omega arith, omega arith, k.at.2)
kept e l c whole (head true (suc (suc (suc zero)))) (code a_sr) other g k h b =
    stay (lanes_count l) c (group true ∷ whole) (head true 3) (ids [] (12 / lanes_count l)) other k h refl
    (tt, let z : 0 + 12 / lanes_count l ≡ 12 / lanes_count l = omega arith in z, b, k.at.2)
kept e l c whole (head false (suc (suc (suc zero)))) (code a_bs) other g k h b =
    stay (lanes_count l) c (group false ∷ whole) (head false 3) (ids [] (12 / lanes_count l)) other k h refl
    (tt, let z : 0 + 12 / lanes_count l ≡ 12 / lanes_count l = omega arith in z, b, k.at.2)
kept e l c whole (ids rows (suc zero)) (row bytes) other g k h b =
    id_kept l c whole rows 1 bytes blank g refl (λ d e. tt) k h
kept e l c whole (ids rows (suc (suc n))) (row bytes) other g k h b =
    subst (λ x. Kept (lanes_count l) c (told whole (ids rows (suc (suc n)))) x (ids (rows ++ bytes ∷ []) (suc n))
    (mark_at (ids rows (suc (suc n))) (row bytes)) bytes)
    (sym (told_ids whole rows bytes (suc n)))
    (id_kept l c whole rows (suc (suc n)) bytes (ids (rows ++ bytes ∷ []) (suc n)) g refl
    (λ d e. (
      one_row (lanes_count l) rows bytes k.at.0 g,
      omega (arith, length-append rows (bytes ∷ []), k.at.1),
      omega arith,
      e,
    )) k h)
kept e l c whole blank (row bytes) other g k h b = filler_kept (lanes_count l) c whole bytes bytes k h
kept true l c whole blank (code a_sr) other g k h b =
    head_kept (lanes_count l) c whole blank true other (head true 1) refl (λ d e. (omega arith, omega arith, e)) k h
kept false l c whole blank (code a_sr) other g k h b = group_kept l c whole blank true other k h b
kept true l c whole blank (code a_bs) other g k h b =
    head_kept (lanes_count l) c whole blank false other (head false 1) refl (λ d e. (omega arith, omega arith, e)) k h
kept false l c whole blank (code a_bs) other g k h b = group_kept l c whole blank false other k h b
kept e l c whole blank (code a_be) other g k h b = begin_kept (lanes_count l) c whole other k h
kept e l c whole blank (code an_ss) other g k h b = stay (lanes_count l) c whole blank opened other k h refl tt
kept e l c whole opened (code an_ss) other g k h b =
    open_kept (lanes_count l) (36 / lanes_count l) c whole other k h refl
kept e l c whole opened (row bytes) other g k h b =
    stay (lanes_count l) c whole opened (packet (bytes ∷ [])) bytes k h refl tt
kept e l c whole (numbers rows (suc n)) (row bytes) other g k h b = number_kept l c whole rows n bytes g k h
kept e l c whole (numbers rows zero) (code an_se) other g k h b = end_kept l c whole rows other k h
kept e l c whole (packet rows) (row bytes) other g k h b =
    stay (lanes_count l) c whole (packet rows) (packet (rows ++ bytes ∷ [])) bytes k h refl tt
kept e l c whole (packet rows) (code an_se) other g k h b = secondary_kept (lanes_count l) c whole rows other k h
kept e l c whole active (row bytes) other g k h b = valid_kept (lanes_count l) c whole bytes k h
kept e l c whole active (code an_fe) other g k h b = stuffing_kept (lanes_count l) c whole active None other refl k h
kept e l c whole active (code an_fs) other g k h b = stay (lanes_count l) c whole active (fill []) other k h refl tt
kept true l c whole active (code a_sr) other g k h b =
    head_kept (lanes_count l) c whole active true other (head true 1) refl (λ d e. (omega arith, omega arith, e)) k h
kept false l c whole active (code a_sr) other g k h b = group_kept l c whole active true other k h b
kept true l c whole active (code a_bs) other g k h b =
    head_kept (lanes_count l) c whole active false other (head false 1) refl (λ d e. (omega arith, omega arith, e)) k h
kept false l c whole active (code a_bs) other g k h b = group_kept l c whole active false other k h b
kept e l c whole (fill rows) (row bytes) other g k h b =
    stay (lanes_count l) c whole (fill rows) (fill (rows ++ bytes ∷ [])) bytes k h refl tt
kept e l c whole (fill rows) (code an_fe) other g k h b =
    stuffing_kept (lanes_count l) c whole (fill rows) (Some rows) other refl k h
kept e l c whole s t other g k h b = tt
