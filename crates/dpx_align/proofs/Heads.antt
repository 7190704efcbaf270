-- What is taken out of the rings: a ring's first codes, and the first symbol of each ring, lane by lane.
use Rattle.std.proofs.Common.{◌≡◌, ◌<◌, ℕ, ◌+◌, ◌-◌, List, [], length, drop, map, get_or, sym, ap, ◌∙◌, arith}
use Rattle.std.proofs.lemmas.List.{drop-map, ext_get_or, get_or-map, length-map}
use Rattle.dpx_base.specs.Words.{fill}
use Rattle.dpx_base.specs.declared.sym.Sym.{Sym}
use Rattle.dpx_lane.specs.Codes.{symbol_of}
use Rattle.dpx_align.specs.Lock.{lane_of}
use Rattle.dpx_align.specs.Search.{head}

pub skipped : (count keep : ℕ) (codes : List ℕ) → keep + count ≡ length codes
    → map symbol_of (drop (length codes - keep) codes) ≡ drop count (map symbol_of codes)
skipped count keep codes e =
    let f : ℕ → List Sym = λ n. map symbol_of (drop n codes) in
    ap f {x = length codes - keep} {y = count} (omega arith) ∙ sym (drop-map symbol_of count codes)

pub each_first : (rings : List (List Sym)) (symbols : List Sym) → length symbols ≡ length rings
    → ((j : ℕ) → j < length rings → get_or symbols j fill ≡ head (lane_of rings j)) → symbols ≡ map head rings
each_first rings symbols long h =
    ext_get_or fill symbols (map head rings) (long ∙ sym (length-map rings head))
    (λ j l.
    let i : j < length rings = omega (arith, l, long) in
    h j i ∙ sym (get_or-map head rings j [] fill i))

pub each_rest : (old new : List (List Sym)) → length new ≡ length old
    → ((j : ℕ) → j < length old → lane_of new j ≡ drop 1 (lane_of old j)) → new ≡ map (λ ring. drop 1 ring) old
each_rest old new size h =
    let f : List Sym → List Sym = λ ring. drop 1 ring in
    ext_get_or [] new (map f old) (size ∙ sym (length-map old f))
    (λ j l.
    let i : j < length old = omega (arith, l, size) in
    h j i ∙ sym (get_or-map f old j [] [] i))
