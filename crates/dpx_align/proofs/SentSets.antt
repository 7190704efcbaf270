-- The sets that are received.
use Rattle.std.proofs.Common.{◌≡◌, ℕ, ◌<◌, ◌≤◌, ◌+◌, ◌-◌, ◌*◌, Bool, List, [], ◌++◌, length, drop, map, replicate, refl}
use Rattle.std.proofs.Common.{sym, ap, subst, ◌∙◌, arith, append_assoc, length-append, Some}
use Rattle.std.specs.Prelude.{slice_index_or, slice_get}
use Rattle.std.proofs.lemmas.List.{drop_at, get_or_append_left, get_or-append-add, length-replicate, length-map}
use Rattle.std.proofs.lemmas.List.{get_or-map, ext_get_or, get_or_default}
use Rattle.std.proofs.lemmas.Option.{slice_get-get_or, slice_get_within, get_or_from_slice_get, same_Some}
use Rattle.dpx_base.specs.Words.{fill, column, SentWords}
use Rattle.dpx_base.specs.declared.sym.Sym.{Sym}
use Rattle.dpx_align.proofs.Once.{lock_once, first_once}
use Rattle.dpx_align.proofs.SentRows.{front, back, length-front, column_group, column-append}
use Rattle.dpx_align.proofs.SentWay.{Lagged, lagged, no_fault, starts, lock}
use Rattle.dpx_align.specs.Faults.{Symbols}
use Rattle.dpx_align.specs.Lock.{sr_group, FirstFrom, SetOf, lane_of}
use Rattle.dpx_align.specs.Sent.{group_sets, FirstGroup, Wide, Received}

-- the sets from the first SR on
abbrev pub from_group : (enhanced : Bool) (lanes : ℕ) → List (List Sym) → List (List Sym)
from_group enhanced lanes rest = group_sets enhanced lanes ++ rest

pub dropped : (enhanced : Bool) (lanes : ℕ) (sets : List (List Sym)) (g : FirstGroup enhanced lanes sets)
    → drop (length g.before) sets ≡ from_group enhanced lanes g.rest
dropped enhanced lanes sets g = ap (drop (length g.before)) g.parts
    ∙ drop_at g.before (from_group enhanced lanes g.rest) (length g.before) refl

pub lane_is : (enhanced : Bool) (lanes : ℕ) (sets plain : List (List Sym)) (g : FirstGroup enhanced lanes sets)
    → Lagged enhanced lanes sets plain g → (j : ℕ) → j < lanes
    → lane_of plain j ≡ front j g.before ++ (column j (from_group enhanced lanes g.rest) ++ back lanes j)
lane_is enhanced lanes sets plain g h j l =
    let group = sr_group enhanced in
    let wide = map (λ (s : Sym). replicate lanes s) group in
    let e : column j (wide ++ g.rest) ≡ group ++ column j g.rest =
    column-append j wide g.rest ∙ ap (λ (x : List Sym). x ++ column j g.rest) (column_group lanes j group l) in
    let f : column j (wide ++ g.rest) ++ back lanes j ≡ group ++ (column j g.rest ++ back lanes j) =
    ap (λ (x : List Sym). x ++ back lanes j) e ∙ append_assoc group (column j g.rest) (back lanes j) in
    h.each j l ∙ ap (λ (x : List Sym). front j g.before ++ x) (sym f)

pub length-lane : (enhanced : Bool) (lanes : ℕ) (sets plain : List (List Sym)) (g : FirstGroup enhanced lanes sets)
    → Lagged enhanced lanes sets plain g → (j : ℕ) → j < lanes
    → length (lane_of plain j) ≡ (2 * j + length g.before) +
    (length (from_group enhanced lanes g.rest) + 2 * ((lanes - 1) - j))
length-lane enhanced lanes sets plain g h j l =
    let after = from_group enhanced lanes g.rest in
    let a = length-append (front j g.before) (column j after ++ back lanes j) in
    let b = length-append (column j after) (back lanes j) in
    let c = length-map after (λ (set : List Sym). slice_index_or set j fill) in
    let d = length-replicate (2 * ((lanes - 1) - j)) fill in
    omega (arith, ap length (lane_is enhanced lanes sets plain g h j l), length-front j g.before, a, b, c, d)

-- lane j's symbol, s clocks after its group began
pub lane_at : (enhanced : Bool) (lanes : ℕ) (sets plain : List (List Sym)) (g : FirstGroup enhanced lanes sets)
    → Lagged enhanced lanes sets plain g → (j s : ℕ) → j < lanes → s < length (from_group enhanced lanes g.rest)
    → slice_get (lane_of plain j) ((2 * j + length g.before) + s)
    ≡ Some (slice_index_or (slice_index_or (from_group enhanced lanes g.rest) s []) j fill)
lane_at enhanced lanes sets plain g h j s l m =
    let after = from_group enhanced lanes g.rest in
    let lane = lane_of plain j in
    let n = 2 * j + length g.before in
    let size = length-lane enhanced lanes sets plain g h j l in
    let c = length-map after (λ (set : List Sym). slice_index_or set j fill) in
    let e : slice_index_or lane (n + s) fill ≡ slice_index_or (slice_index_or after s []) j fill =
    ap (λ (x : List Sym). slice_index_or x (n + s) fill) (lane_is enhanced lanes sets plain g h j l)
    ∙ (ap (λ (i : ℕ). slice_index_or (front j g.before ++ (column j after ++ back lanes j)) (i + s) fill)
    (sym (length-front j g.before))
    ∙ (get_or-append-add (front j g.before) (column j after ++ back lanes j) s fill
    ∙ (get_or_append_left (column j after) (back lanes j) fill s (omega (arith, c))
    ∙ get_or-map (λ (set : List Sym). slice_index_or set j fill) after s [] fill m))) in
    slice_get-get_or lane (n + s) fill (omega arith) ∙ ap Some e

pub set_there : (enhanced : Bool) (lanes : ℕ) (sets plain : List (List Sym)) (g : FirstGroup enhanced lanes sets)
    → 0 < lanes → lanes ≤ 4 → Lagged enhanced lanes sets plain g → Wide lanes (from_group enhanced lanes g.rest)
    → (s : ℕ) (set : List Sym) → slice_get (from_group enhanced lanes g.rest) s ≡ Some set
    → SetOf (sr_group enhanced) plain s set
set_there enhanced lanes sets plain g some few h w s set e =
    let after = from_group enhanced lanes g.rest in
    let m : s < length after = slice_get_within after s set e in
    let f : slice_index_or after s [] ≡ set = get_or_from_slice_get after s set [] e in
    let size : length set ≡ lanes = ap length (sym f) ∙ w s m in
    record {
      at = length g.before;
      lock = lock enhanced lanes sets plain g some few h;
      size = size ∙ sym h.size;
      symbols = λ j d l.
          let i : j < lanes = omega (arith, h.size) in
          record {
            start = 2 * j + length g.before;
            starts = starts enhanced lanes sets plain g h j i;
            there = lane_at enhanced lanes sets plain g h j s i m
                ∙ ap Some (ap (λ (x : List Sym). slice_index_or x j fill) f
                ∙ get_or_default set j fill d (omega (arith, size)));
          };
    }

-- lane j's symbol of a set that was received
pub symbol_is : (enhanced : Bool) (lanes : ℕ) (sets plain : List (List Sym)) (g : FirstGroup enhanced lanes sets)
    → 0 < lanes → lanes ≤ 4 → Lagged enhanced lanes sets plain g → (s : ℕ) (set : List Sym)
    → SetOf (sr_group enhanced) plain s set → (j : ℕ) → j < lanes
    → slice_get (lane_of plain j) ((2 * j + length g.before) + s) ≡ Some (slice_index_or set j fill)
symbol_is enhanced lanes sets plain g some few h s set f j l =
    let group = sr_group enhanced in
    let o = f.symbols j fill (omega (arith, h.size)) in
    let a : f.at ≡ length g.before = lock_once group plain f.at (length g.before) f.lock
    (lock enhanced lanes sets plain g some few h) in
    let b : FirstFrom group (lane_of plain j) (length g.before) o.start =
    subst (λ (m : ℕ). FirstFrom group (lane_of plain j) m o.start) a o.starts in
    let c : o.start ≡ 2 * j + length g.before =
    first_once group (lane_of plain j) (length g.before) o.start (2 * j + length g.before) b
    (starts enhanced lanes sets plain g h j l) in
    ap (λ (n : ℕ). slice_get (lane_of plain j) (n + s)) (sym c) ∙ o.there

pub set_back : (enhanced : Bool) (lanes : ℕ) (sets plain : List (List Sym)) (g : FirstGroup enhanced lanes sets)
    → 0 < lanes → lanes ≤ 4 → Lagged enhanced lanes sets plain g → Wide lanes (from_group enhanced lanes g.rest)
    → (s : ℕ) (set : List Sym) → SetOf (sr_group enhanced) plain s set
    → slice_get (from_group enhanced lanes g.rest) s ≡ Some set
set_back enhanced lanes sets plain g some few h w s set f =
    let after = from_group enhanced lanes g.rest in
    let last = lanes - 1 in
    let last_in : last < lanes = omega arith in
    let b = slice_get_within (lane_of plain last) ((2 * last + length g.before) + s) (slice_index_or set last fill)
    (symbol_is enhanced lanes sets plain g some few h s set f last last_in) in
    let m : s < length after = omega (arith, b, length-lane enhanced lanes sets plain g h last last_in) in
    let sent = slice_index_or after s [] in
    let size : length sent ≡ length set = w s m ∙ (sym h.size ∙ sym f.size) in
    let e : sent ≡ set = ext_get_or fill sent set size (λ j l.
    let i : j < lanes = omega (arith, w s m) in
    same_Some (slice_index_or sent j fill) (slice_index_or set j fill)
    (sym (lane_at enhanced lanes sets plain g h j s i m)
    ∙ symbol_is enhanced lanes sets plain g some few h s set f j i)) in
    slice_get-get_or after s [] m ∙ ap Some e

wide_from : (lanes : ℕ) (sets before after : List (List Sym)) → sets ≡ before ++ after → Wide lanes sets
    → Wide lanes after
wide_from lanes sets before after e w k l =
    let a : length before + k < length sets = omega (arith, ap length e, length-append before after) in
    let f : slice_index_or sets (length before + k) [] ≡ slice_index_or after k [] =
    ap (λ (x : List (List Sym)). slice_index_or x (length before + k) []) e ∙ get_or-append-add before after k [] in
    ap length (sym f) ∙ w (length before + k) a

-- what is sent is received
pub received : (enhanced : Bool) (lanes : ℕ) (sets : List (List Sym)) (words : List (List ℕ)) (plain : List (List Sym))
    (g : FirstGroup enhanced lanes sets) → 0 < lanes → lanes ≤ 4 → Wide lanes sets → SentWords lanes sets words
    → Symbols words plain → Received enhanced words plain (length g.before) (drop (length g.before) sets)
received enhanced lanes sets words plain g some few w s p =
    let h = lagged enhanced lanes sets plain words g s p in
    let v = wide_from lanes sets g.before (from_group enhanced lanes g.rest) g.parts w in
    let e = dropped enhanced lanes sets g in
    record {
      no_fault = no_fault lanes sets words s;
      lock = lock enhanced lanes sets plain g some few h;
      sets_there = λ i set f. set_there enhanced lanes sets plain g some few h v i set
          (ap (λ (x : List (List Sym)). slice_get x i) (sym e) ∙ f);
      no_others = λ i set f. ap (λ (x : List (List Sym)). slice_get x i) e
          ∙ set_back enhanced lanes sets plain g some few h v i set f;
    }
