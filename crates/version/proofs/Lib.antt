pub mod LaterIsGreater
