use Rattle.tf_check.proofs.SoundFiles.{typed_sound}
use Rattle.tf_check.proofs.laws.typed_files_are_sound.Goals as goal

pub returns : goal.returns
returns c file p within typed = typed_sound file p within typed
