pub mod FaceValues
