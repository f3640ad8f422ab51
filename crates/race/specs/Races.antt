-- A race in words, by the access that met it and the one before it. Assumes nothing.
--     race_said         the two accesses, by the number of the race kind
--     cell_at         the cell or the plain cell of the row at fault
--     access_name     what an access is called
--     put_race        the line that names both, behind a page's end
use Rattle.std.specs.Prelude.{ℕ, ◌+◌, ◌%◌, List, Option, Some, None, unwrap_or, Bool, true, false, cond, eqb}
use Prim.Native.String.{String}
use Rattle.rules.specs.Token.{bytes_of}
use Rattle.rules.specs.Table.{Op, Decoded, refused, decoded}
use Rattle.page.specs.Pages.{Page, put_text, put_filled}
use Rattle.steps.specs.Entries.{entry_read, entries, row_says}
use Rattle.last_access.specs.Access.{cell_in, last_access_step}
use Rattle.last_access.specs.declared.AccessKind.{AccessKind}
use Rattle.last_access.specs.declared.AccessKind.TheVariants.{Load, UnsyncLoad, Store, Exclusive, PlainRead, PlainWrite}

-- the access that meets a race, and the one before it that it races with
infix 20 ◌against◌
abbrev pub ◌against◌ : AccessKind → AccessKind → AccessKind × AccessKind
met against before = (met, before)

-- "Race kinds in check order: load 1 (mut); unsynchronised load 2 (mut), 3 (store); store 4 (mut), 5 (unsynchronised load);
-- exclusive 6 (load), 7 (unsynchronised load), 8 (store), 9 (mut)." Of plain cells: "A read is refused if a write vector has a
-- thread ahead (race kind 10). A write is refused if a read vector (kind 11), then a write vector (kind 12), has one." 9 stands
-- last, for what is no race kind too
abbrev pub race_said : ℕ → AccessKind × AccessKind
race_said kind =
    cond (eqb kind 1) (Load against Exclusive)
    (cond (eqb kind 2) (UnsyncLoad against Exclusive)
    (cond (eqb kind 3) (UnsyncLoad against Store)
    (cond (eqb kind 4) (Store against Exclusive)
    (cond (eqb kind 5) (Store against UnsyncLoad)
    (cond (eqb kind 6) (Exclusive against Load)
    (cond (eqb kind 7) (Exclusive against UnsyncLoad)
    (cond (eqb kind 8) (Exclusive against Store)
    (cond (eqb kind 10) (PlainRead against PlainWrite)
    (cond (eqb kind 11) (PlainWrite against PlainRead)
    (cond (eqb kind 12) (PlainWrite against PlainWrite)
    (Exclusive against Exclusive)))))))))))

-- the cell or the plain cell that a row names, or 255; a thread and a row are numbers of one byte
abbrev pub cell_named : Decoded Op → ℕ
cell_named refused = 255
cell_named (decoded op) = unwrap_or (cell_in op) 255

unfoldable pub cell_at : List ℕ → ℕ → ℕ → ℕ
cell_at table thread row = cell_named (row_says table (thread % 256) (row % 256))

abbrev pub access_name : AccessKind → String
access_name Load = "the load"
access_name UnsyncLoad = "the unsynchronised load"
access_name Store = "the store"
access_name Exclusive = "the exclusive change"
access_name PlainRead = "the plain read"
access_name PlainWrite = "the plain write"

abbrev pub is_plain : AccessKind → Bool
is_plain Load = false
is_plain UnsyncLoad = false
is_plain Store = false
is_plain Exclusive = false
is_plain PlainRead = true
is_plain PlainWrite = true

unfoldable pub put_where : Page → AccessKind → ℕ → Page
put_where l met cell =
    cond (is_plain met) (put_filled l (bytes_of "answer 14: failed: race on plain cell #: ") cell 0 0)
    (put_filled l (bytes_of "answer 14: failed: race on cell #: ") cell 0 0)

-- the access that met the race, of the row at fault
unfoldable pub put_met : Page → ℕ → AccessKind → ℕ → ℕ → Page
put_met l cell met thread row =
    put_filled (put_text (put_where l met cell) (bytes_of (access_name met))) (bytes_of " of thread #, row #, against ") thread row 0

-- the other thread, and the row of this step; steps are counted from 1 where they are told
unfoldable pub put_step : Page → List ℕ → ℕ → Option ℕ → Page
put_step l trace other None = put_filled l (bytes_of " of thread #\n") other 0 0
put_step l trace other (Some i) =
    put_filled l (bytes_of " of thread #, row # (step #)\n") other (entry_read trace i).row (i + 1)

-- the access before it: the other thread's last of this kind to the cell
unfoldable pub put_before : Page → List ℕ → List ℕ → ℕ → AccessKind → ℕ → Page
put_before l table trace cell before other =
    put_step (put_text l (bytes_of (access_name before))) trace other (last_access_step table trace other cell before (entries trace))

unfoldable pub put_race : Page → List ℕ → List ℕ → ℕ → ℕ → ℕ → ℕ → Page
put_race l table trace thread row kind other =
    put_before (put_met l (cell_at table thread row) (race_said kind).0 thread row) table trace (cell_at table thread row)
    (race_said kind).1 other
