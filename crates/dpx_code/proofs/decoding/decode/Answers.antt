use Rattle.dpx_code.proofs.Readings.{reads_ok, reads_its_symbol, reads_next, reads_unknown, reads_not_a_word}
use Rattle.dpx_code.proofs.Readings.{reads_wrong_column, reads_refusal}
use Rattle.dpx_code.proofs.decoding.decode.Goals as goal

pub returns-clause-ok : goal.returns-clause-ok
returns-clause-ok c = reads_ok c.args.word c.args.rd c.read_word.result c.read_word.ensures

pub returns-clause-symbol : goal.returns-clause-symbol
returns-clause-symbol c = reads_its_symbol c.args.word c.args.rd c.read_word.result c.read_word.ensures

pub returns-clause-next : goal.returns-clause-next
returns-clause-next c = reads_next c.args.word c.args.rd c.read_word.result c.read_word.ensures

pub returns-clause-unknown : goal.returns-clause-unknown
returns-clause-unknown c = reads_unknown c.args.word c.args.rd c.read_word.result c.read_word.ensures

pub returns-clause-not_a_word : goal.returns-clause-not_a_word
returns-clause-not_a_word c = reads_not_a_word c.args.word c.args.rd c.read_word.result c.read_word.ensures

pub returns-clause-wrong_column : goal.returns-clause-wrong_column
returns-clause-wrong_column c = reads_wrong_column c.args.word c.args.rd c.read_word.result c.read_word.ensures

pub returns-clause-refusals : goal.returns-clause-refusals
returns-clause-refusals c = reads_refusal c.args.word c.args.rd c.read_word.result c.read_word.ensures
