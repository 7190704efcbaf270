-- Lists of symbols and their words.
use Rattle.std.proofs.Common.{◌≡◌, ℕ, zero, suc, Bool, true, false, if◌then◌else◌, List, [], ◌∷◌, ◌++◌, length, take}
use Rattle.std.proofs.Common.{map}
use Rattle.std.proofs.Common.{refl, sym, ap, subst, ◌∙◌, inl, inr, Some, None}
use Rattle.std.specs.List.{AllByRecursion}
use Rattle.dpx_base.specs.Code.{IsSymbol, Codes, Coded, Listed, word_of, next_disparity}
use Rattle.dpx_base.specs.declared.sym.Sym.{Sym}
use Rattle.dpx_code.specs.Back.{stands}
use Rattle.dpx_code.specs.Decode.{candidate_of}
use Rattle.dpx_code.specs.Disparity.{rd_of}
use Rattle.dpx_code.specs.Track.{ends, EndsKnown, Tracks, Stuck}
use Rattle.dpx_code.specs.declared.disparity.Rd.{Rd}
use Rattle.dpx_code.specs.declared.disparity.Rd.TheVariants.{Minus, Plus, Unknown}
use Rattle.dpx_code.proofs.Columns.{reads_symbol, stands_there, stands_codes}
use Rattle.dpx_code.proofs.Tracking.{ends_cons, ends_nil, ends_none}

-- words have one list of symbols
pub coded_map : (plus : Bool) (ss : List Sym) (ws : List ℕ) (end : Bool) → Coded plus ss ws end
    → ss ≡ map candidate_of ws
coded_map plus [] [] end h = refl
coded_map plus [] (w ∷ ws) end h = absurd h
coded_map plus (s ∷ ss) [] end h = absurd h
coded_map plus (s ∷ ss) (w ∷ ws) end h =
    let e = reads_symbol s plus h.0 w h.1 in
    let f = coded_map h.0 ss ws end h.2 in
    cc

pub coded_length : (plus : Bool) (ss : List Sym) (ws : List ℕ) (end : Bool) → Coded plus ss ws end
    → length ss ≡ length ws
coded_length plus [] [] end h = refl
coded_length plus [] (w ∷ ws) end h = absurd h
coded_length plus (s ∷ ss) [] end h = absurd h
coded_length plus (s ∷ ss) (w ∷ ws) end h = ap suc (coded_length h.0 ss ws end h.2)

-- a symbol more, and its word
pub coded_more : (plus : Bool) (ss : List Sym) (ws : List ℕ) (middle : Bool) (s : Sym) (w : ℕ) (end : Bool)
    → Coded plus ss ws middle → Codes s middle w end → Coded plus (ss ++ s ∷ []) (ws ++ w ∷ []) end
coded_more plus [] [] middle s w end h k = (end, subst (λ p. Codes s p w end) (sym h) k, refl)
coded_more plus [] (v ∷ ws) middle s w end h k = absurd h
coded_more plus (t ∷ ss) [] middle s w end h k = absurd h
coded_more plus (t ∷ ss) (v ∷ ws) middle s w end h k = (h.0, h.1, coded_more h.0 ss ws middle s w end h.2 k)

-- the first words have a list too
pub coded_front : (t : ℕ) (plus : Bool) (ss : List Sym) (ws : List ℕ) (end : Bool) → Coded plus ss ws end
    → (middle : Bool) × Coded plus (take t ss) (take t ws) middle
coded_front zero plus ss ws end h = (plus, refl)
coded_front (suc t) plus [] [] end h = (end, h)
coded_front (suc t) plus [] (w ∷ ws) end h = absurd h
coded_front (suc t) plus (s ∷ ss) [] end h = absurd h
coded_front (suc t) plus (s ∷ ss) (w ∷ ws) end h =
    let f = coded_front t h.0 ss ws end h.2 in
    (f.0, (h.0, h.1, f.1))

pub listed_front : (t : ℕ) (plus : Bool) (ss : List Sym) (ws : List ℕ) (end : Bool)
    → Coded plus ss ws end → Listed (take t ws)
listed_front t plus ss ws end h =
    let f = coded_front t plus ss ws end h in
    record { from = plus; symbols = take t ss; end = f.0; code = f.1 }

-- from a disparity on, symbols have one list of words, and one end
pub coded_once : (plus : Bool) (ss : List Sym) (ws vs : List ℕ) (end last : Bool)
    → Coded plus ss ws end → Coded plus ss vs last → (ws ≡ vs) × (end ≡ last)
coded_once plus [] [] [] end last h k = (refl, sym h ∙ k)
coded_once plus [] [] (v ∷ vs) end last h k = absurd k
coded_once plus [] (w ∷ ws) vs end last h k = absurd h
coded_once plus (s ∷ ss) [] vs end last h k = absurd h
coded_once plus (s ∷ ss) (w ∷ ws) [] end last h k = absurd k
coded_once plus (s ∷ ss) (w ∷ ws) (v ∷ vs) end last h k =
    let e : w ≡ v = sym h.1.1 ∙ k.1.1 in
    let n : h.0 ≡ k.0 = sym h.1.2 ∙ (ap (λ word. next_disparity word plus) e ∙ k.1.2) in
    let rest = coded_once k.0 ss ws vs end last (subst (λ p. Coded p ss ws end) n h.2) k.2 in
    let t = rest.0 in
    (cc, rest.1)

-- symbols have words, from each disparity on
pub coded_there : (plus : Bool) (ss : List Sym) → AllByRecursion IsSymbol ss
    → (ws : List ℕ) × (end : Bool) × Coded plus ss ws end
coded_there plus [] h = ([], plus, refl)
coded_there plus (s ∷ ss) h =
    let w = word_of s.control s.byte plus in
    let next = next_disparity w plus in
    let rest = coded_there next ss h.1 in
    (w ∷ rest.0, rest.1, (next, (h.0, refl, refl), rest.2))

-- words that stand one after another are those of their symbols
coded_by : (plus : Bool) (w : ℕ) (ws : List ℕ) (end : Bool) (b : Bool) → stands plus w ≡ b
    → ((next : Bool) → ends (Some next) ws ≡ Some end → Coded next (map candidate_of ws) ws end)
    → ends (if b then Some (next_disparity w plus) else None) ws ≡ Some end
    → Coded plus (candidate_of w ∷ map candidate_of ws) (w ∷ ws) end
coded_by plus w ws end true e rest h =
    (next_disparity w plus, stands_codes plus w e, rest (next_disparity w plus) h)
coded_by plus w ws end false e rest h =
    let f = ends_none ws in cc

pub ends_coded : (plus : Bool) (ws : List ℕ) (end : Bool) → ends (Some plus) ws ≡ Some end
    → Coded plus (map candidate_of ws) ws end
ends_coded plus [] end h =
    let e = ends_nil (Some plus) in cc
ends_coded plus (w ∷ ws) end h =
    coded_by plus w ws end (stands plus w) refl (λ next f. ends_coded next ws end f) (sym (ends_cons plus w ws) ∙ h)

pub coded_ends : (plus : Bool) (ss : List Sym) (ws : List ℕ) (end : Bool) → Coded plus ss ws end
    → ends (Some plus) ws ≡ Some end
coded_ends plus [] [] end h = ends_nil (Some plus) ∙ ap Some h
coded_ends plus [] (w ∷ ws) end h = absurd h
coded_ends plus (s ∷ ss) [] end h = absurd h
coded_ends plus (s ∷ ss) (w ∷ ws) end h =
    let a = stands_there s plus h.0 w h.1 in
    let n : next_disparity w plus ≡ h.0 = h.1.2 in
    ends_cons plus w ws
    ∙ (ap (λ (b : Bool). ends (if b then Some (next_disparity w plus) else None) ws) a
    ∙ (ap (λ (next : Bool). ends (Some next) ws) n ∙ coded_ends h.0 ss ws end h.2))

stuck_by : (ws : List ℕ) → Stuck ws → (plus : Bool) (ss : List Sym) (end : Bool) → Coded plus ss ws end → ⊥
stuck_by ws s false ss end c =
    let e = coded_ends false ss ws end c in
    let f = s.0 in cc
stuck_by ws s true ss end c =
    let e = coded_ends true ss ws end c in
    let f = s.1 in cc

pub stuck_unlisted : (ws : List ℕ) → Stuck ws → Listed ws → ⊥
stuck_unlisted ws s l = stuck_by ws s l.from l.symbols l.end l.code

-- words whose disparity is tracked have a list
pub record Runs (ws : List ℕ) : Type 0 where
  pub from : Bool
  pub end : Bool
  pub code : Coded from (map candidate_of ws) ws end

known_runs : (plus : Bool) (ws : List ℕ) → EndsKnown plus (ends (Some false) ws) (ends (Some true) ws) → Runs ws
known_runs plus ws (inl h) = record { from = false; end = plus; code = ends_coded false ws plus h.0 }
known_runs plus ws (inr h) = record { from = true; end = plus; code = ends_coded true ws plus h.1 }

pub runs : (rd : Rd) (ws : List ℕ) → Tracks rd ws → Runs ws
runs Minus ws h = known_runs false ws h
runs Plus ws h = known_runs true ws h
runs Unknown ws h = record { from = false; end = false; code = ends_coded false ws false h.0 }

-- where the disparity is known, each list of the words leaves it
known_end : (plus : Bool) (ws : List ℕ) → EndsKnown plus (ends (Some false) ws) (ends (Some true) ws)
    → (from : Bool) (end : Bool) → ends (Some from) ws ≡ Some end → end ≡ plus
known_end plus ws (inl h) false end e = let f = h.0 in cc
known_end plus ws (inl h) true end e = let f = h.1 in cc
known_end plus ws (inr h) false end e = let f = h.0 in cc
known_end plus ws (inr h) true end e = let f = h.1 in cc

pub tracks_end : (plus : Bool) (ws : List ℕ) → Tracks (rd_of plus) ws
    → (from : Bool) (ss : List Sym) (end : Bool) → Coded from ss ws end → end ≡ plus
tracks_end false ws h from ss end c = known_end false ws h from end (coded_ends from ss ws end c)
tracks_end true ws h from ss end c = known_end true ws h from end (coded_ends from ss ws end c)
