use mathlib.Core.Path.{sym}
use Rattle.page.proofs.PageLaws.{byte_fits, byte-lost, one_number, one_byte}
use Rattle.page.proofs.put_byte.Goals as goal

pub returns-then-byte-eq35 : goal.returns-then-byte-eq35
returns-then-byte-eq35 c = one_number _ _ _ _ c.if-byte-eq35.true c.put_number.ensures

pub returns-then-at-ge-PAGE_BYTES : goal.returns-then-at-ge-PAGE_BYTES
returns-then-at-ge-PAGE_BYTES c = one_byte _ _ _ _ c.if-byte-eq35.false (sym (byte-lost _ _ _ c.if-at-ge-PAGE_BYTES.true))

pub returns : goal.returns
returns c = one_byte _ _ _ _ c.if-byte-eq35.false (sym (byte_fits _ _ _ c.if-at-ge-PAGE_BYTES.false))
