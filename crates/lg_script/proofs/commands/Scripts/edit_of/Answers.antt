use Rattle.std.proofs.Common.{◌≡◌, ℕ, Some, map, slice_get, subst, arith}
use Rattle.lg_edit.specs.Edits.{edit_view}
use Rattle.lg_log.specs.Codes.{code_index}
use Rattle.lg_script.specs.Codes.{place_of}
use Rattle.lg_script.specs.Commands.{command_view, script_views, makes}
use Rattle.lg_script.specs.EditNumbers.{edit_numbers}
use Rattle.lg_script.specs.Histories.{command_at}
use Rattle.lg_script.proofs.Coded.{in_bounds, has_index, place_is, edit_is}
use Rattle.lg_script.proofs.commands.Scripts.edit_of.Goals as goal

pub unreachable-requires : goal.unreachable-requires
unreachable-requires c =
    omega (
      arith,
      c.in_default.ensures.past,
      c.index_of.ensures,
      has_index c.args.self.now c.items.result.now c.args.code c.session_of-session.result c.index-items-session.result c.code_laws.ensures.codes c.requires.code c.items.ensures c.session_of-session.ensures c.index-items-session.is,
    )

number : (c : goal.In-Some) → Some c.in-Some.command ≡ slice_get (edit_numbers (map command_view c.index-items-session.result)) (code_index c.args.code)
number c = subst (λ (k : ℕ). Some c.in-Some.command ≡ slice_get (edit_numbers (map command_view c.index-items-session.result)) k) c.index_of.ensures c.in-Some.ensures.number

stands : (c : goal.In-Some) → command_at (script_views c.args.self.now) (place_of (script_views c.args.self.now) c.args.code) ≡ Some (makes (edit_view c.in-Some.edit.now))
stands c =
    edit_is c.args.self.now c.items.result.now c.args.code c.session_of-session.result c.index-items-session.result c.code_laws.ensures.codes c.requires.code c.items.ensures c.session_of-session.ensures c.index-items-session.is c.in-Some.command (number c)
    (edit_view c.in-Some.edit.now) c.in-Some.ensures.edit

pub returns-clause-place : goal.returns-clause-place
returns-clause-place c =
    place_is c.args.self.now c.items.result.now c.args.code c.session_of-session.result c.index-items-session.result c.code_laws.ensures.codes c.requires.code c.items.ensures c.session_of-session.ensures c.index-items-session.is c.in-Some.command (number c)

pub returns-clause-edit : goal.returns-clause-edit
returns-clause-edit c = stands c

pub returns-clause-items : goal.returns-clause-items
returns-clause-items c = (in_bounds (script_views c.args.self.now) _ _ c.requires.scripts.each (stands c)).0

pub returns-clause-bounds : goal.returns-clause-bounds
returns-clause-bounds c = (in_bounds (script_views c.args.self.now) _ _ c.requires.scripts.each (stands c)).1
