use Rattle.std.proofs.Common.{List, [], ◌∷◌, ◌++◌, map, subst, sym, ap, ◌∙◌}
use Rattle.dpx_base.specs.Code.{Codes}
use Rattle.dpx_base.specs.Key.{since_reset, scrambled}
use Rattle.dpx_base.specs.declared.sym.Sym.{Sym}
use Rattle.dpx_lane.specs.Codes.{symbol_of}
use Rattle.dpx_lane.specs.Scrambling.{HasTaken}
use Rattle.dpx_lane.proofs.Sends.{coded_code}
use Rattle.dpx_lane.proofs.coder.Coder.word.Goals as goal

pub returns : goal.returns
returns c codes words h =
    let symbols : List Sym = map symbol_of codes in
    let e = c.symbol_of.ensures.value in
    coded_code c.args.self.now _ c.args.code c.word-word.result.0 c.next-sym.result codes words h
    (subst (λ s. HasTaken c.next-sym.new.self (symbols ++ s ∷ [])) e (c.next-sym.ensures.state symbols h.taken))
    (c.next-sym.ensures.value symbols h.taken ∙ ap (scrambled (since_reset symbols)) e)
    (subst (λ s. Codes s
    c.args.self.now.plus c.word-word.result.0 c.word-word.result.1) c.code_of.ensures.back c.word-word.ensures)
