use Rattle.permit_program.proofs.Serial.{lone_serial}
use Rattle.permit_program.proofs.laws.lone_days_are_serial.Goals as goal

pub returns : goal.returns
returns c = lone_serial
