-- The parser.
use Rattle.std.proofs.Common.{ℕ, ◌≡◌, ◌∙◌, ◌+◌, ◌-◌, ◌^◌, Bool, List, [], ◌∷◌, ◌++◌, length, Option, Some}
use Rattle.std.proofs.Common.{None, Ok, Err, refl, sym, subst, arith, length-append}
use Rattle.std.specs.Prelude.{Result, min}
use Rattle.dpx_base.specs.declared.lanes.Lanes.{Lanes}
use Rattle.dpx_base.specs.declared.sym.Sym.{Sym}
use Rattle.dpx_base.specs.Lanes.{lanes_count}
use Rattle.dpx_grammar.specs.Machine.{start}
use Rattle.dpx_parse.specs.Core.{Taken, taken_by, new_core}
use Rattle.dpx_parse.specs.FirstFault.{HasNoFault}
use Rattle.dpx_parse.specs.Parser.{lanes_of, enhanced_of, StandsFor, Accepts, Refuses}
use Rattle.dpx_parse.specs.Stands.{Stands}
use Rattle.dpx_parse.specs.declared.bad.ParseBad.{ParseBad}
use Rattle.dpx_parse.specs.declared.bad.ParseWhy.{ParseWhy}
use Rattle.dpx_parse.specs.declared.event.Event.{Event}
use Rattle.dpx_parse.specs.declared.machine.Core.{Core}
use Rattle.dpx_parse.specs.declared.parser.Parser.{Parser}
use Rattle.dpx_parse.proofs.Accepting.{accepts_exactly}
use Rattle.dpx_parse.proofs.Taken.{Took, takes}
use Rattle.dpx_parse.proofs.Refused.{refuses}
use Rattle.dpx_parse.proofs.Reading.{no_fault}

abbrev parser_of : Core → ℕ → Option ParseBad → Parser
parser_of c n o = record { core = c; number = n; refused = o }

stands_new : (lanes : Lanes) (en : Bool) → Stands (new_core lanes en) []
stands_new lanes en = record {
  whole = [];
  place = start;
  reads = record { tokens = []; sets_are = refl; uniform = tt; reached = refl };
  state = refl;
  stand = tt;
  knows = record {
    attributes = refl;
    live = refl;
    live_at = refl;
    lines = λ a e. absurd (cc);
    valids = λ a e l. absurd (cc);
    room = refl;
    at = tt;
  };
  unended = refl;
}

pub starts : (lanes : Lanes) (en : Bool) (c : Core) → c ≡ new_core lanes en → StandsFor (parser_of c 0 None) []
starts lanes en c e = record {
  core = subst (λ x. Stands x []) (sym e) (stands_new lanes en);
  number = refl;
  refused =
      refl;
}

pub accepts : (p : Parser) (c : Core) (set : List Sym) (event : Event) (n : ℕ) → length set ≡ lanes_count (lanes_of p)
    → taken_by p.core set ≡ Ok (record { core = c; event = event }) → c.lanes ≡ lanes_of p → c.enhanced ≡ enhanced_of p
    → n ≡ min (p.number + 1) (2 ^ 64 - 1)
    → (sets : List (List Sym)) → StandsFor p sets
    → Accepts (enhanced_of p) (lanes_of p) sets set event (parser_of c n p.refused)
accepts p c set event n l e m f w sets s =
    let t : Took p.core sets set (record { core = c; event = event }) =
    takes p.core sets set (record { core = c; event = event }) l e s.core in
    let q : length (sets ++ set ∷ []) ≡ length sets + 1 = length-append sets (set ∷ []) in
    record {
      stands = record { core = t.stands; number = omega (arith, w, s.number, q); refused = s.refused };
      accepted = (accepts_exactly (enhanced_of p) (lanes_of p) (sets ++ set ∷ [])).0
          (subst (λ y. HasNoFault y (lanes_count (lanes_of p)) (sets ++ set ∷ [])) f
          (subst (λ x. HasNoFault c.enhanced (lanes_count x) (sets ++ set ∷ [])) m
          (no_fault c (sets ++ set ∷ []) t.stands)));
      tells = t.event;
    }

pub refuses_set : (p : Parser) (set : List Sym) (why : ParseWhy) → length set ≡ lanes_count (lanes_of p)
    → ◌≡◌ {A = Result Taken ParseWhy} (taken_by p.core set) (Err why) → (sets : List (List Sym)) → StandsFor p sets
    → Refuses (enhanced_of p) (lanes_of p) sets set (record { set = p.number; why = why })
refuses_set p set why l e sets s = record { number = s.number; fault = refuses p.core sets set why l e s.core }

pub not_refused : (p : Parser) (bad : ParseBad) (sets : List (List Sym)) → p.refused ≡ Some bad → StandsFor p sets → ⊥
not_refused p bad sets e s = go bad (sym s.refused ∙ e)
  where
    go : (bad : ParseBad) → ◌≡◌ {A = Option ParseBad} None (Some bad) → ⊥
    go bad e = cc
