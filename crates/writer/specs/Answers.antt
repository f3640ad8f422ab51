-- What the writer's answer stands for in the definition, and what it asks of a table. Assumes nothing.
use Rattle.std.specs.Prelude.{ℕ, ◌≤◌, List, length, Result, Ok, Err}
use Rattle.rules.specs.Table.{threads_of, header_bytes, max_threads}
use Rattle.rules.specs.Writer as rules
use Rattle.writer.specs.declared.Unwritten.{Unwritten}
use Rattle.writer.specs.declared.Unwritten.TheVariants.{Unfit, Short}

abbrev pub written_of : Result ℕ Unwritten → rules.Written
written_of (Err Unfit) = rules.unfit
written_of (Err (Short needed)) = rules.short needed
written_of (Ok length) = rules.written length

-- the answer with what is left in the buffer
abbrev pub with_text : Result ℕ Unwritten → List ℕ → rules.WrittenInto
with_text r text = record { answer = written_of r; text = text }

pub record Fit (table : List ℕ) : Type 0 where
  pub header : header_bytes ≤ length table
  pub threads : threads_of table ≤ max_threads
