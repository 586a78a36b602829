use Rattle.ojp_values.proofs.CharacterBytes.{controls_are_bytes, noncharacters_are_bytes}
use Rattle.ojp_values.proofs.fields.names_have_characters.Goals as goal

pub returns-clause-controls : goal.returns-clause-controls
returns-clause-controls c = controls_are_bytes

pub returns-clause-noncharacters : goal.returns-clause-noncharacters
returns-clause-noncharacters c = noncharacters_are_bytes
