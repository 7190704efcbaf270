-- What a writer of words has taken and written: this project's own.
use Rattle.std.specs.Prelude.{◌≡◌, ℕ, ◌<◌, ◌-◌, ◌*◌, List, ◌++◌, length, map, replicate, Option}
use Rattle.std.specs.List.{range_with_len}
use Rattle.std.specs.Io.KnownBytes.{Appends}
use Rattle.dpx_base.specs.Capture.{word_bytes}
use Rattle.dpx_base.specs.Lanes.{lanes_count}
use Rattle.dpx_base.specs.Words.{Sendable, column, fill, words_of}
use Rattle.dpx_base.specs.declared.lanes.Lanes.{Lanes}
use Rattle.dpx_base.specs.declared.sym.Sym.{Sym}
use Rattle.dpx_lane.specs.Codes.{AllCodes, code_of}
use Rattle.dpx_lane.specs.Rows.{RowsFacts}
use Rattle.dpx_lane.specs.Sending.{IsSent}
use Rattle.dpx_lane.specs.Team.{TeamFacts, TeamSent}
use Rattle.dpx_lane.specs.declared.lane_tx.LaneTx.{LaneTx}
use Rattle.dpx_source.specs.declared.word_writer.WordWriter.{WordWriter}
use Rattle.dpx_base.specs.Transfer.{AppendsFront}

-- its rows are those of its lanes, hold codes alone, and their words have room in its bytes
pub record IsWriter (w : WordWriter) : Type 0 where
  pub lanes : w.rows.lanes ≡ w.team.lanes
  pub codes : (lane : ℕ) → AllCodes (words_of w.rows.rows lane)
  pub room : length w.bytes.items ≡ 65536

-- the codes of each lane's symbols of these sets
abbrev pub codes_of : Lanes → List (List Sym) → List (List ℕ)
codes_of lanes sets = map (λ lane. map code_of (column lane sets)) (range_with_len 0 (lanes_count lanes))

abbrev pub rows_of : Lanes → List (List Sym) → RowsFacts
rows_of lanes sets = record { lanes = lanes; rows = codes_of lanes sets; clocks = length sets }

-- These sets were pushed: the words of the first of them are written, and the others wait in the rows.
pub record HasWritten (rows : RowsFacts) (team : TeamFacts LaneTx) (given : List (List Sym))
    (before now : Option (List ℕ)) : Type 0 where
  pub flushed : List (List Sym)
  pub waiting : List (List Sym)
  pub parts : given ≡ flushed ++ waiting
  pub sendable : Sendable given
  pub rows_are : rows ≡ rows_of team.lanes waiting
  pub words : List (List ℕ)
  pub sent : TeamSent 0 team.states (codes_of team.lanes flushed) words
  pub taken : Appends before now (word_bytes (lanes_count team.lanes) (length flushed) words)

-- the words of the lanes, as many as sets are there: of each lane's row the first
pub record LanesSent (lanes : ℕ) (sets : List (List Sym)) (words : List (List ℕ)) : Type 0 where
  pub size : length words ≡ lanes
  pub each : (lane : ℕ) → lane < lanes → IsSent (2 * lane) (column lane sets) (words_of words lane)

-- a front of the bytes of the words of these sets was taken, whatever sets come behind
abbrev pub HasWrittenFront : (lanes : ℕ) → (given : List (List Sym)) → (before now : Option (List ℕ)) → Type 0
HasWrittenFront lanes given before now =
    (more : List (List Sym)) (words : List (List ℕ)) → LanesSent lanes (given ++ more) words
    → AppendsFront before now (word_bytes lanes (length (given ++ more)) words)

-- the bytes of the words of these sets were taken whole
pub record HasWrittenAll (lanes : ℕ) (sets : List (List Sym)) (before now : Option (List ℕ)) : Type 0 where
  pub words : List (List ℕ)
  pub sent : LanesSent lanes sets words
  pub taken : Appends before now (word_bytes lanes (length sets) words)

-- sets, and the fills behind them in which the lanes that lag come to their end
abbrev pub with_fills : Lanes → List (List Sym) → List (List Sym)
with_fills lanes sets = sets ++ replicate (2 * (lanes_count lanes - 1)) (replicate (lanes_count lanes) fill)
