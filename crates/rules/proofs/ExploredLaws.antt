-- `explored`, spelt out for each refusal and for a run: document 01's table of answers, row by row. Assumes nothing.
use Prim.Native.Nat.{ℕ, ◌*◌}
use mathlib.Core.List.{List}
use mathlib.Core.Bool.{true, false}
use mathlib.Core.Path.{◌≡◌}
use mathlib.Core.Logic.{◌≢◌}
use lib.ListN.{length}
use borrow.Author.Tests.{eq-eqb, ne_eqb}
use Rattle.rules.specs.Path.{record_bytes}
use Rattle.rules.specs.Table.{judged, good, bad_header, bad_row, threads_of}
use Rattle.rules.specs.Condition.{is_condition}
use Rattle.rules.specs.Explored.{Settings, explored, refused, ran, stop_of, settings_fine}

module _ (table condition : List ℕ) (s : Settings) (path trace : List ℕ) where
  -- "2 B, L or N out of range": "buffers unchanged"
  pub explored-2 : settings_fine s ≡ false → explored table condition s path trace ≡ refused 2 255 255 path trace
  unfolding explored
  explored-2 a = rw (explored, a)

  module _ (a : settings_fine s ≡ true) where
    -- "3 path buffer length wrong"
    pub explored-3 : length path ≢ record_bytes * s.branches → explored table condition s path trace ≡ refused 3 255 255 path trace
    unfolding explored
    explored-3 b = rw (explored, a, ne_eqb (length path) (record_bytes * s.branches) b)

    module _ (b : length path ≡ record_bytes * s.branches) where
      -- "4 trace buffer .. length wrong"
      pub explored-4 : length trace ≢ record_bytes * s.operations → explored table condition s path trace ≡ refused 4 255 255 path trace
      unfolding explored
      explored-4 c =
          rw (explored, a, eq-eqb (length path) (record_bytes * s.branches) b, ne_eqb (length trace) (record_bytes * s.operations) c)

      module _ (c : length trace ≡ record_bytes * s.operations) where
        -- "5 table refused": "255, 255 if header or length is bad, which is judged first"
        pub explored-5-header : judged table ≡ bad_header → explored table condition s path trace ≡ refused 5 255 255 path trace
        unfolding explored
        explored-5-header d =
            rw (explored, a, eq-eqb (length path) (record_bytes * s.branches) b, eq-eqb (length trace) (record_bytes * s.operations) c, d)

        -- "for 5 the first bad row"
        pub explored-5-row : (t k : ℕ) → judged table ≡ bad_row t k → explored table condition s path trace ≡ refused 5 t k path trace
        unfolding explored
        explored-5-row t k d =
            rw (explored, a, eq-eqb (length path) (record_bytes * s.branches) b, eq-eqb (length trace) (record_bytes * s.operations) c, d)

        module _ (d : judged table ≡ good) where
          -- bytes that are no condition are answer 5 with thread and row 255
          pub explored-5-condition : is_condition (threads_of table) condition ≡ false →
              explored table condition s path trace ≡ refused 5 255 255 path trace
          unfolding explored
          explored-5-condition e =
              rw (explored, a, eq-eqb (length path) (record_bytes * s.branches) b, eq-eqb (length trace) (record_bytes * s.operations) c, d, e)

          -- and else there is a run
          pub explored-ran : is_condition (threads_of table) condition ≡ true →
              explored table condition s path trace ≡ ran (length path) (length trace) (stop_of table condition s)
          unfolding explored
          explored-ran e =
              rw (explored, a, eq-eqb (length path) (record_bytes * s.branches) b, eq-eqb (length trace) (record_bytes * s.operations) c, d, e)
