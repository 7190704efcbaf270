-- Of a front of the parts no attributes and no line is taken back.
use Rattle.std.proofs.Common.{◌≡◌, ℕ, Bool, true, false, List, [], ◌∷◌, ◌++◌, map, refl, sym, ap, ◌∙◌}
use Rattle.std.proofs.Common.{append_assoc, append-nil, Ok, Result}
use Rattle.std.specs.Prelude.{⊤}
use Rattle.std.specs.List.{filter}
use Rattle.std.proofs.lemmas.List.{map-append}
use Rattle.dpx_base.specs.Mode.{depth_bits}
use Rattle.dpx_base.specs.declared.pixel.Pixel.{Pixel}
use Rattle.dpx_msa.specs.declared.attributes.Attributes.{Attributes}
use Rattle.dpx_msa.specs.Reading.{read_attributes}
use Rattle.dpx_msa.specs.declared.msa_bad.MsaBad.{MsaBad}
use Rattle.dpx_grammar.specs.Accepted.{ActivePart, FrameParts, frame_parts, valid_rows, is_ended, lines_of}
use Rattle.dpx_grammar.specs.Accepted.{pixels_in_rows}
use Rattle.dpx_grammar.specs.Accepted.{Frame, IsFrame, AreFrames, pixels_of}
use Rattle.dpx_grammar.specs.Gathered.{gathered}
use Rattle.dpx_grammar.specs.Parts.{Part, group, block, filler, attributes, secondary, begins, valid, stuffing}

-- ---- active parts

unfoldable pub whole_of : List ActivePart → List ActivePart
whole_of lines = filter (λ line. line.is_whole) lines

abbrev line_as : List (List ℕ) → Bool → ActivePart
line_as rows whole = record { rows = rows; is_whole = whole }

ended_front : (w : List Part) (x : Part) → is_ended w ≡ true
    → (is_ended (w ++ x ∷ []) ≡ true) × (valid_rows (w ++ x ∷ []) ≡ valid_rows w)
ended_front [] x h = cc
ended_front (valid row ∷ w) x h = let e = ended_front w x h in (e.0, ap (λ rows. row ∷ rows) e.1)
ended_front (stuffing rows ∷ w) x h = ended_front w x h
ended_front (group reset ∷ w) x h = (refl, refl)
ended_front (block rows ∷ w) x h = (h, refl)
ended_front (filler row ∷ w) x h = (h, refl)
ended_front (attributes rows ∷ w) x h = (h, refl)
ended_front (secondary rows ∷ w) x h = (h, refl)
ended_front (begins ∷ w) x h = (h, refl)

later_ended : (w : List Part) (x : Part) → is_ended w ≡ false → is_ended (w ++ x ∷ []) ≡ true → lines_of w ≡ []
later_ended [] x h k = refl
later_ended (valid row ∷ w) x h k = later_ended w x h k
later_ended (stuffing rows ∷ w) x h k = later_ended w x h k
later_ended (group reset ∷ w) x h k = cc
later_ended (block rows ∷ w) x h k = cc
later_ended (filler row ∷ w) x h k = cc
later_ended (attributes rows ∷ w) x h k = cc
later_ended (secondary rows ∷ w) x h k = cc
later_ended (begins ∷ w) x h k = cc

begin_more : (a b : Bool) (ra rb : List (List ℕ)) (la lb zs : List ActivePart)
    → (a ≡ true → (b ≡ true) × (rb ≡ ra)) → (a ≡ false → b ≡ true → la ≡ []) → whole_of lb ≡ whole_of la ++ zs
    → (ys : List ActivePart) × (whole_of (line_as rb b ∷ lb) ≡ whole_of (line_as ra a ∷ la) ++ ys)
unfolding whole_of
begin_more true true ra rb la lb zs h k e =
    (zs, ap (λ (r : List (List ℕ)). line_as r true ∷ whole_of lb) (h refl).1 ∙ ap (λ x. line_as ra true ∷ x) e)
begin_more true false ra rb la lb zs h k e =
    let f = (h refl).0 in
    cc
begin_more false true ra rb la lb zs h k e =
    let z : [] ≡ whole_of la = ap whole_of (sym (k refl refl)) in
    (line_as rb true ∷ whole_of lb, ap (λ x. x ++ (line_as rb true ∷ whole_of lb)) z)
begin_more false false ra rb la lb zs h k e = (zs, e)

whole_more : (w : List Part) (x : Part)
    → (zs : List ActivePart) × (whole_of (lines_of (w ++ x ∷ [])) ≡ whole_of (lines_of w) ++ zs)
unfolding whole_of
whole_more [] x = (whole_of (lines_of (x ∷ [])), refl)
whole_more (begins ∷ w) x =
    let m = whole_more w x in
    begin_more (is_ended w) (is_ended (w ++ x ∷ [])) (valid_rows w) (valid_rows (w ++ x ∷ [])) (lines_of w)
    (lines_of (w ++ x ∷ [])) m.0 (λ e. ended_front w x e) (λ e f. later_ended w x e f) m.1
whole_more (attributes rows ∷ w) x = ([], refl)
whole_more (group reset ∷ w) x = whole_more w x
whole_more (block rows ∷ w) x = whole_more w x
whole_more (filler row ∷ w) x = whole_more w x
whole_more (secondary rows ∷ w) x = whole_more w x
whole_more (valid row ∷ w) x = whole_more w x
whole_more (stuffing rows ∷ w) x = whole_more w x

-- where attributes follow, the lines before them are as they were
abbrev Tells : List FrameParts → Type 0
Tells [] = ⊥
Tells (t ∷ ts) = ⊤

told_rows : (w : List Part) (x : Part) → Tells (frame_parts w)
    → (valid_rows (w ++ x ∷ []) ≡ valid_rows w) × (is_ended (w ++ x ∷ []) ≡ is_ended w)
told_rows [] x h = absurd h
told_rows (valid row ∷ w) x h = let e = told_rows w x h in (ap (λ rows. row ∷ rows) e.0, e.1)
told_rows (stuffing rows ∷ w) x h = told_rows w x h
told_rows (group reset ∷ w) x h = (refl, refl)
told_rows (block rows ∷ w) x h = (refl, refl)
told_rows (filler row ∷ w) x h = (refl, refl)
told_rows (attributes rows ∷ w) x h = (refl, refl)
told_rows (secondary rows ∷ w) x h = (refl, refl)
told_rows (begins ∷ w) x h = (refl, refl)

told_same : (w : List Part) (x : Part) → Tells (frame_parts w) → lines_of (w ++ x ∷ []) ≡ lines_of w
told_same [] x h = absurd h
told_same (begins ∷ w) x h =
    let e = told_rows w x h in
    ap (λ (r : List (List ℕ)). line_as r (is_ended (w ++ x ∷ [])) ∷ lines_of (w ++ x ∷ [])) e.0
    ∙ (ap (λ (b : Bool). line_as (valid_rows w) b ∷ lines_of (w ++ x ∷ [])) e.1
    ∙ ap (λ ls. line_as (valid_rows w) (is_ended w) ∷ ls) (told_same w x h))
told_same (attributes rows ∷ w) x h = refl
told_same (group reset ∷ w) x h = told_same w x h
told_same (block rows ∷ w) x h = told_same w x h
told_same (filler row ∷ w) x h = told_same w x h
told_same (secondary rows ∷ w) x h = told_same w x h
told_same (valid row ∷ w) x h = told_same w x h
told_same (stuffing rows ∷ w) x h = told_same w x h

-- ---- the parts of frames, as more parts come

abbrev More : FrameParts → FrameParts → Type 0
More t u = (zs : List ActivePart) × (whole_of u.lines ≡ whole_of t.lines ++ zs)

-- all but the last stay, and the last one may get more lines
abbrev pub PartsGo : List FrameParts → List FrameParts → Type 0
PartsGo [] us = ⊤
PartsGo (t ∷ []) (u ∷ us) = (t.rows ≡ u.rows) × More t u
PartsGo (t ∷ v ∷ ts) (u ∷ us) = (t.rows ≡ u.rows) × (whole_of t.lines ≡ whole_of u.lines) × PartsGo (v ∷ ts) us
PartsGo _ [] = ⊥

no_parts : (t : FrameParts) (ts : List FrameParts) → PartsGo (t ∷ ts) [] → ⊥
no_parts t [] h = h
no_parts t (u ∷ ts) h = h

pub parts_same : (ts : List FrameParts) → PartsGo ts ts
parts_same [] = tt
parts_same (t ∷ []) = (refl, ([], sym (append-nil (whole_of t.lines))))
parts_same (t ∷ u ∷ ts) = (refl, refl, parts_same (u ∷ ts))

pub parts_on : (a b c : List FrameParts) → PartsGo a b → PartsGo b c → PartsGo a c
parts_on [] b c h k = tt
parts_on (t ∷ ts) [] c h k = absurd (no_parts t ts h)
parts_on (t ∷ ts) (u ∷ us) [] h k = absurd (no_parts u us k)
parts_on (t ∷ []) (u ∷ []) (w ∷ ws) h k = (
  h.0 ∙ k.0,
  (h.1.0 ++ k.1.0, k.1.1 ∙ (ap (λ x. x ++ k.1.0) h.1.1 ∙ append_assoc (whole_of t.lines) h.1.0 k.1.0)),
)
parts_on (t ∷ []) (u ∷ v ∷ us) (w ∷ ws) h k = (h.0 ∙ k.0, (h.1.0, sym k.1 ∙ h.1.1))
parts_on (t ∷ s ∷ ts) (u ∷ []) (w ∷ ws) h k = absurd (no_parts s ts h.2)
parts_on (t ∷ s ∷ ts) (u ∷ v ∷ us) (w ∷ ws) h k = (h.0 ∙ k.0, h.1 ∙ k.1, parts_on (s ∷ ts) (v ∷ us) ws h.2 k.2)

head_goes : (t u : FrameParts) (ts us : List FrameParts) → t.rows ≡ u.rows → More t u
    → (Tells ts → whole_of t.lines ≡ whole_of u.lines) → PartsGo ts us → PartsGo (t ∷ ts) (u ∷ us)
head_goes t u [] us r m s p = (r, m)
head_goes t u (v ∷ ts) us r m s p = (r, s tt, p)

abbrev parts_as : List (List ℕ) → List ActivePart → FrameParts
parts_as rows lines = record { rows = rows; lines = lines }

pub part_goes : (w : List Part) (x : Part) → PartsGo (frame_parts w) (frame_parts (w ++ x ∷ []))
part_goes [] x = tt
part_goes (attributes rows ∷ w) x =
    head_goes (parts_as rows (lines_of w)) (parts_as rows (lines_of (w ++ x ∷ []))) (frame_parts w)
    (frame_parts (w ++ x ∷ [])) refl (whole_more w x) (λ h. ap whole_of (sym (told_same w x h))) (part_goes w x)
part_goes (begins ∷ w) x = part_goes w x
part_goes (group reset ∷ w) x = part_goes w x
part_goes (block rows ∷ w) x = part_goes w x
part_goes (filler row ∷ w) x = part_goes w x
part_goes (secondary rows ∷ w) x = part_goes w x
part_goes (valid row ∷ w) x = part_goes w x
part_goes (stuffing rows ∷ w) x = part_goes w x

-- ---- frames

-- all but the last stay as they are, and the last one may get more lines
abbrev pub AreFront : List Frame → List Frame → Type 0
AreFront [] others = ⊤
AreFront (f ∷ []) (g ∷ others) =
    (f.attributes ≡ g.attributes) × ((more : List (List Pixel)) × (g.lines ≡ f.lines ++ more))
AreFront (f ∷ h ∷ frames) (g ∷ others) =
    (f.attributes ≡ g.attributes) × (f.lines ≡ g.lines) × AreFront (h ∷ frames) others
AreFront _ [] = ⊥

ok_one : (a b : Attributes) (r : Result Attributes MsaBad) → r ≡ Ok a → r ≡ Ok b → a ≡ b
ok_one a b r h k = cc

attributes_one : (lanes : ℕ) (t u : FrameParts) (f g : Frame) → t.rows ≡ u.rows → IsFrame lanes t f
    → IsFrame lanes u g → f.attributes ≡ g.attributes
attributes_one lanes t u f g e h k =
    ok_one f.attributes g.attributes (read_attributes (gathered lanes t.rows)) h.read
    (ap (λ rows. read_attributes (gathered lanes rows)) e ∙ k.read)

no_frames : (lanes : ℕ) (t : FrameParts) (ts : List FrameParts) → AreFrames lanes (t ∷ ts) [] → ⊥
no_frames lanes t [] h = h
no_frames lanes t (u ∷ ts) h = h

first_is : (lanes : ℕ) (t : FrameParts) (ts : List FrameParts) (f : Frame) (fs : List Frame)
    → AreFrames lanes (t ∷ ts) (f ∷ fs) → IsFrame lanes t f × AreFrames lanes ts fs
first_is lanes t [] f [] h = (h.0, tt)
first_is lanes t [] f (g ∷ fs) h = absurd h
first_is lanes t (u ∷ ts) f fs h = (h.0, h.2)

shown : (lanes : ℕ) → Attributes → ActivePart → List Pixel
shown lanes a line = pixels_in_rows (depth_bits a.depth) lanes a.width line.rows

shown_are : (lanes : ℕ) (a : Attributes) (lines : List ActivePart)
    → pixels_of lanes a lines ≡ map (shown lanes a) (whole_of lines)
unfolding whole_of shown
shown_are lanes a lines = refl

frame_lines : (lanes : ℕ) (t : FrameParts) (f : Frame) (a : Attributes) → f.attributes ≡ a → IsFrame lanes t f
    → f.lines ≡ map (shown lanes a) (whole_of t.lines)
frame_lines lanes t f a e h =
    h.lines ∙ (ap (λ x. pixels_of lanes x t.lines) e ∙ shown_are lanes a t.lines)

pub frames_go : (lanes : ℕ) (ts us : List FrameParts) (fs gs : List Frame) → PartsGo ts us → AreFrames lanes ts fs
    → AreFrames lanes us gs → AreFront fs gs
frames_go lanes [] us [] gs p h k = tt
frames_go lanes [] us (f ∷ fs) gs p h k = absurd h
frames_go lanes (t ∷ ts) [] fs gs p h k = absurd (no_parts t ts p)
frames_go lanes (t ∷ ts) (u ∷ us) [] gs p h k = absurd (no_frames lanes t ts h)
frames_go lanes (t ∷ ts) (u ∷ us) (f ∷ fs) [] p h k = absurd (no_frames lanes u us k)
frames_go lanes (t ∷ []) (u ∷ us) (f ∷ []) (g ∷ gs) p h k =
    let own = (first_is lanes u us g gs k).0 in
    let a = attributes_one lanes t u f g p.0 h.0 own in
    let show = shown lanes g.attributes in (
      a,
      (
        map show p.1.0,
        frame_lines lanes u g g.attributes refl own
            ∙ (ap (map show) p.1.1
            ∙ (map-append show (whole_of t.lines) p.1.0
            ∙ ap (λ x. x ++ map show p.1.0) (sym (frame_lines lanes t f g.attributes a h.0)))),
      ),
    )
frames_go lanes (t ∷ []) (u ∷ us) (f ∷ e ∷ fs) (g ∷ gs) p h k = absurd h
frames_go lanes (t ∷ v ∷ ts) (u ∷ us) (f ∷ []) (g ∷ gs) p h k = absurd (no_frames lanes v ts h.2)
frames_go lanes (t ∷ v ∷ ts) (u ∷ us) (f ∷ e ∷ fs) (g ∷ gs) p h k =
    let other = first_is lanes u us g gs k in
    let a = attributes_one lanes t u f g p.0 h.0 other.0 in (
      a,
      frame_lines lanes t f g.attributes a h.0
          ∙ (ap (map (shown lanes g.attributes)) p.1 ∙ sym (frame_lines lanes u g g.attributes refl other.0)),
      frames_go lanes (v ∷ ts) us (e ∷ fs) gs p.2 h.2 other.1,
    )
