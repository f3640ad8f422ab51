use borrow.Enum.Refused.{opened}
use Rattle.accesses.proofs.OpLaws.{row_within, load-within, rmw-within, offers-none, offers-load, offers-rmw, offers-other}
use borrow.Author.Rules.{scaled_Fits}
use lib.Dec.{lit<}
use Rattle.accesses.proofs.offers.Goals as goal

pub returns-in_default : goal.returns-in_default
returns-in_default c = λ values. offers-none _ _ values _ _ _ _ c.in_default.is

pub offset_bounds-marks-cell : goal.offset_bounds-marks-cell
offset_bounds-marks-cell c = scaled_Fits _ 4 70 (load-within _ _ _ _ c.in-Load.is (row_within _ _ c.in-Some.is c.requires.names)).0 (lit< tt)

pub bounds-marks-cell : goal.bounds-marks-cell
bounds-marks-cell c = (load-within _ _ _ _ c.in-Load.is (row_within _ _ c.in-Some.is c.requires.names)).0

pub match_load_to_stores-requires : goal.match_load_to_stores-requires
match_load_to_stores-requires c = (c.requires.who, (load-within _ _ _ _ c.in-Load.is (row_within _ _ c.in-Some.is c.requires.names)).0)

pub match_rmw_to_stores-requires : goal.match_rmw_to_stores-requires
match_rmw_to_stores-requires c = (rmw-within _ _ _ _ _ _ c.in-Rmw.is (row_within _ _ c.in-Some.is c.requires.names)).0

pub returns-in-Load : goal.returns-in-Load
returns-in-Load c = λ values. offers-load _ _ values _ _ _ _ _ c.in-Some.is _ _ _ c.in-Load.is _ c.match_load_to_stores.ensures

pub returns-in-Rmw : goal.returns-in-Rmw
returns-in-Rmw c =
    λ values. offers-rmw _ c.args.marks.now values _ c.args.here.site.thread _ _ _ c.in-Some.is _ _ _ _ _ c.in-Rmw.is _ c.match_rmw_to_stores.ensures

pub returns-in_default-op : goal.returns-in_default-op
returns-in_default-op c = λ values. offers-other _ _ values _ _ _ _ _ c.in-Some.is (opened c.in_default-op.in_default-op-own.keys3)
