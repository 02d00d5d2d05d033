-- What the definitions say of some texts.
use Rattle.std.proofs.Common.{◌≡◌, ℕ, List, true, false, Option, Some, None, codes, refl}
use Rattle.std.specs.Prelude.{option_and_then, option_map}
use Rattle.config_terms.specs.Allowed.{entry_allowed, fields_fit}
use Rattle.config_terms.specs.Edits.{with_property as with_own}
use Rattle.config_terms.specs.Rules.{fits, obeys}
use Rattle.config_terms.specs.Texts.{entry_text, limit_lines, options_line, setting, settings}
use Rattle.zn_base.specs.Lines.{lines_of}
use Rattle.export_read.specs.Reading.{command_of}
use Rattle.zone_config.specs.Edits.{with_property}
use Rattle.zone_config.specs.Export.{export_text}
use Rattle.zone_config.specs.Property.{setting_named}
use Rattle.zone_config.specs.Resources.{with_resource}
use Rattle.zone_config.specs.Sound.{count}
use Rattle.export_read.specs.Drafts.{completed, config_of, drafted, is_begun, start}
use Rattle.export_read.specs.Names.{fresh}

-- the text of the shortest configuration that some lines begin
shortest : List ℕ → Option (List ℕ)
shortest text = option_map export_text (option_and_then completed (drafted (lines_of text) start))

-- the text of the configuration that a text is read as
printed : List ℕ → Option (List ℕ)
printed text = option_map export_text (config_of text)

whole : printed (codes "create -b\nset zonepath=/zones/web\nset brand=ipkg\nset autoboot=false\nset ip-type=shared\n")
    ≡ Some (codes "create -b\nset zonepath=/zones/web\nset brand=ipkg\nset autoboot=false\nset ip-type=shared\n")
unfolding printed config_of drafted command_of with_property setting_named export_text setting obeys
whole = refl

exchanged : printed (codes "create -b\nset brand=ipkg\nset zonepath=/zones/web\nset autoboot=false\nset ip-type=shared\n") ≡ None
unfolding printed config_of drafted command_of with_property setting_named export_text setting obeys
exchanged = refl

exchanged_at_2 : is_begun (codes "create -b\nset brand=ipkg\n") ≡ true
unfolding is_begun completed drafted command_of with_property setting_named export_text setting obeys
exchanged_at_2 = refl

exchanged_at_3 : is_begun (codes "create -b\nset brand=ipkg\nset zonepath=/zones/web\n") ≡ false
unfolding is_begun completed drafted command_of with_property setting_named export_text setting obeys
exchanged_at_3 = refl

too_short : printed (codes "create -b\nset zonepath=/zones/web\nset brand=ipkg\nset autoboot=false\n") ≡ None
unfolding printed config_of drafted command_of with_property setting_named export_text setting obeys
too_short = refl

without_newline : printed (codes "create -b\nset autoboot=false\nset ip-type=shared") ≡ None
unfolding printed config_of drafted command_of with_property setting_named export_text setting obeys
without_newline = refl

nothing : shortest (codes "") ≡ Some (codes "create -b\nset autoboot=true\nset ip-type=shared\n")
unfolding shortest completed drafted export_text setting
nothing = refl

-- a second device whose match is still to come has a shortest free one
second_device : shortest (codes "create -b\nset autoboot=true\nset ip-type=shared\nadd device\nend\nadd device\n")
    ≡ Some (codes "create -b\nset autoboot=true\nset ip-type=shared\nadd device\nend\nadd device\nset match=A\nend\n")
unfolding shortest completed drafted command_of with_property with_own with_resource setting_named export_text entry_text entry_allowed fields_fit settings setting options_line limit_lines fits obeys count fresh
second_device = refl

-- a name that is there already begins no text
duplicate : is_begun (codes "create -b\nset autoboot=true\nset ip-type=shared\nadd attr\nset name=a\nend\nadd attr\nset name=a\n") ≡ false
unfolding is_begun completed drafted command_of with_property with_own with_resource setting_named export_text entry_text entry_allowed fields_fit settings setting options_line limit_lines fits obeys count fresh
duplicate = refl
