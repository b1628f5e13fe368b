-- `keyentry::append` meets its contract.
use native.Mathlib.Omega.{arith}
use Rattle.sizes.proofs.SizeLaws.{key-at-most}
use Rattle.keyentry.specs.Entry.{cipher_in, lacks}
use Rattle.keyentry.proofs.EntryLaws.{appended}
use Rattle.keyentry.proofs.append.Goals as goal

pub slice_bounds-copy_from_slice-end : goal.slice_bounds-copy_from_slice-end
unfolding lacks
slice_bounds-copy_from_slice-end c = omega (arith, key-at-most (cipher_in c.args.e.now))

pub overflow_cast-e : goal.overflow_cast-e
unfolding lacks
overflow_cast-e c = omega (arith, key-at-most (cipher_in c.args.e.now))

pub returns : goal.returns
returns c = appended _ _ c.from-n.ensures c.copy_from_slice.ensures.after
