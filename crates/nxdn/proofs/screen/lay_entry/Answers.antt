-- `nxdn::screen::lay_entry` meets its contract.
use mathlib.Core.Path.{◌∙◌}
use borrow.Author.Rules.{rules}
use Rattle.nxdn.proofs.InterfaceLaws.{flag_is, entry_room, entry_laid}
use Rattle.nxdn.proofs.screen.lay_entry.Goals as goal

pub copy_from_slice-requires-2 : goal.copy_from_slice-requires-2
copy_from_slice-requires-2 c = entry_room c.args.entry c.args.shown.now c.requires (search rules) (c.from.ensures ∙ flag_is _) _ c.copy_from_slice.ensures.after

pub returns : goal.returns
returns c = entry_laid c.args.entry c.args.shown.now c.requires (search rules) (c.from.ensures ∙ flag_is _) _ c.copy_from_slice.ensures.after c.copy_from_slice-2.ensures.after
